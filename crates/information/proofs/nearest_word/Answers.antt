-- `nearest_word` meets its contract. Assumes nothing.
use Rattle.general.proofs.Names.{bit_xor, ℕ, ◌+◌, ◌≡◌, refl, ap, subst, ◌∙◌, arith}
use lib.Count.{ones}
use Rattle.information.proofs.Products.{least_more}
use Rattle.information.proofs.Apart.{first_word, distance_at}
use Rattle.information.specs.Inner.{Found, differences}
use Rattle.information.specs.Information.{word_distance, least_of, nearest_word}
use Rattle.information.proofs.nearest_word.Goals as goal

pub overflow_add-version : goal.overflow_add-version
overflow_add-version c = omega arith

pub overflow_mul-version : goal.overflow_mul-version
overflow_mul-version c = omega arith

pub word_of-word-requires : goal.word_of-word-requires
word_of-word-requires c = omega arith

pub loop-k-init : goal.loop-k-init
unfolding least_of word_distance
loop-k-init c = (
  omega arith,
  record {
    word_is = refl;
    at = c.distance.ensures.0
        ∙ ap (λ (n : ℕ). ones (bit_xor n c.args.first) + ones (bit_xor n c.args.second))
        (first_word c.args.version c.requires c.word_of-word.ensures c.as_u64.ensures);
    small = omega arith;
  },
)

pub overflow_add-k : goal.overflow_add-k
overflow_add-k c = omega arith

pub offset_bounds-differences-k : goal.offset_bounds-differences-k
offset_bounds-differences-k c = omega arith

pub bounds-differences-k : goal.bounds-differences-k
bounds-differences-k c = omega arith

pub loop-k-smaller : goal.loop-k-smaller
loop-k-smaller c = omega arith

pub loop-k-preserved : goal.loop-k-preserved
unfolding differences
loop-k-preserved c = (
  omega arith,
  least_more (word_distance c.args.version c.args.first c.args.second) c.loop-k.k c.distance-in-loop-k.result c.loop-k.invariant.1
      (c.distance-in-loop-k.ensures.0 ∙ distance_at c.args.version (c.loop-k.k + 1) c.args.first c.args.second c.requires (omega arith)
      (first_word c.args.version c.requires c.word_of-word.ensures c.as_u64.ensures)) (omega arith) c.nearer-best.ensures,
)

pub returns : goal.returns
unfolding nearest_word
returns c =
    let e : c.loop-k.k ≡ 15 = omega arith in
    subst (λ (n : ℕ). Found (word_distance c.args.version c.args.first c.args.second)
    (least_of (word_distance c.args.version c.args.first c.args.second) n) c.loop-k.best) e c.loop-k.invariant.1
