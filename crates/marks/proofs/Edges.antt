-- Each edge of SPECIFICATION 12.1 holds. Computed; assumes nothing.
use Rattle.general.proofs.Names.{flat_map, T}
use Rattle.field.specs.Field.{times_alpha, raised}
use Rattle.symbol.specs.Version.{is_side, side_refusal, side_version}
use Rattle.information.specs.Information.{times_x, product_from, gf16_mul, generator_times, remainder, word_of, info_bits}
use Rattle.codewords.specs.Codewords.{order}
use Rattle.bits.specs.Bits.{low_bits, word_bits, value, groups, first_words, words}
use Rattle.segments.specs.Script.{payload_of, script_of}
use Rattle.segments.specs.Segments.{digits, groups_of, numeric_of, char_of, text_of, first_byte, second_byte, double_byte_of, four_bytes, four_byte_of}
use Rattle.segments.specs.Segments.{bytes_of_mode, segment_of, parse}
use Rattle.script.specs.Writer.{same}
use Rattle.marks.specs.Edges.{payload_in, edges, hold}
use Rattle.general.specs.Lists.{each}

pub edges_hold : T (hold edges)
unfolding hold same edges payload_in raised times_alpha is_side side_refusal side_version times_x product_from gf16_mul generator_times remainder word_of info_bits
    each order low_bits word_bits flat_map value first_words groups words payload_of script_of digits groups_of numeric_of char_of text_of
    first_byte second_byte double_byte_of four_bytes four_byte_of
    bytes_of_mode segment_of parse
edges_hold = tt
