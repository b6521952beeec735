-- A WRITTEN MARK IS READ BACK (SPECIFICATION 11), by Read a square and by Read with known version, level, mask, over the definitions that
-- the contracts cite; its words are those of specs/Promise.antt. First: a mark made by the writer is read as it was written, whichever
-- modules flip or turn unknown within reach. Second: what a reading answers for any square at all that passes its first refusals. Third:
-- leftover modules. Fourth: the smallest mark. Fifth: which codewords are erased. Assumes nothing.
use Rattle.general.proofs.Names.{◌≡◌, sym, ap, ◌∙◌, ◌≢◌, subst, List, ◌++◌, ℕ, ◌*◌, ◌/◌, ◌≤◌, ◌<◌, arith, length, get_or, take, drop}
use Rattle.symbol.specs.Version.{side_of, side_version}
use Rattle.symbol.specs.Layout.{layout_of}
use Rattle.information.specs.Information.{info_flips}
use Rattle.codewords.specs.Codewords.{mask_bit}
use Rattle.script.specs.Check.{commands_of}
use Rattle.marks.specs.Receipt.{receipt_of}
use Rattle.marks.specs.Read.{Reading, refused, nearest_in, flags_from, read_refusal, known_refusal, body_of, read_of, read_known_of}
use Rattle.marks.specs.Write.{segments_refusal, write_of}
use Rattle.marks.specs.Smallest.{smallest_of}
use Rattle.marks.specs.Promise.{block_count, block_in, parity_in, erased_at, info_changed, changed_at, changed, MeetsAt, Admits, EachAdmitted, FirstRefused}
use Rattle.marks.specs.Promise.{InReach, EachInReach, set_to, corrections_at, Leftover, ModuleOf, Holds}
use Rattle.reed_solomon.specs.Block.{distance}
use Rattle.marks.proofs.Marks.{Ranges}
use Rattle.marks.proofs.Starts.{level_range}
use Rattle.marks.proofs.ReadBack as back
use Rattle.marks.proofs.Leftovers as leftovers
use Rattle.marks.proofs.Flags as flags
use Rattle.marks.proofs.AnySquare as any
use Rattle.marks.proofs.Smallest as small

-- ---- 1. Marks made by the writer (11.1 to 11.8)

-- A script (a list of bytes) and a payload are written at a version, level and mask into a square, which then is `mark`. `square` is any
-- square of the same size with module bytes 0, 1 or 2, each block of which meets its condition for the written block. The receipt has 12
-- bytes, and the buffers p and s are long enough.
module _ (v level mask : ℕ) (script payload before mark : List ℕ) (bytes : (i : ℕ) → get_or script i 0 < 256)
    (made : write_of v level mask script payload before ≡ record { number = 0; square = mark })
    (square : List ℕ) (size : length square ≡ length mark) (modules : (i : ℕ) → get_or square i 0 < 3)
    (meets : (j : ℕ) → j < block_count v level → MeetsAt v level mask square mark j)
    (p s r : List ℕ) (receipt : length r ≡ 12) (room-p : length payload ≤ length p) (room-s : length script ≤ length s) where
  -- If at most 8 of the 68 information modules differ, unknown ones counted as light, Read a square answers 0, with the script, payload,
  -- version, level and mask that were written, and the count is exactly the number of block codewords that differ.
  pub scratched_mark_is_read : info_changed v mark square ≤ 8
      → read_of square (side_of v) p s r ≡ record {
        number = 0;
        receipt = receipt_of v level mask (changed v level mask square mark) (nearest_in v square).distance (length payload) (length script);
        payload = payload ++ drop (length payload) p;
        script = script ++ drop (length script) s;
      }
  scratched_mark_is_read few = back.mark_read v level mask script payload before mark bytes made square size modules meets p s r receipt room-p room-s few

  -- Read with known version, level, mask does so whatever the information modules are; its receipt shows distance 0.
  pub scratched_mark_is_read_known : read_known_of square v level mask p s r ≡ record {
    number = 0;
    receipt = receipt_of v level mask (changed v level mask square mark) 0 (length payload) (length script);
    payload = payload ++ drop (length payload) p;
    script = script ++ drop (length script) s;
  }
  scratched_mark_is_read_known = back.mark_known v level mask script payload before mark bytes made square size modules meets p s r receipt room-p room-s

-- The same of squares with no unknown modules, by codewords changed alone. `square` is any square of the same size with module bytes 0 or 1,
-- each block of which differs from the written block in at most floor(parity / 2)
-- codewords.
module _ (v level mask : ℕ) (script payload before mark : List ℕ) (bytes : (i : ℕ) → get_or script i 0 < 256)
    (made : write_of v level mask script payload before ≡ record { number = 0; square = mark })
    (square : List ℕ) (size : length square ≡ length mark) (modules : (i : ℕ) → get_or square i 0 < 2)
    (reach : (j : ℕ) → j < block_count v level → changed_at v level mask square mark j ≤ parity_in v level j / 2)
    (p s r : List ℕ) (receipt : length r ≡ 12) (room-p : length payload ≤ length p) (room-s : length script ≤ length s) where
  -- If at most 8 of the 68 information modules differ, Read a square answers 0, with the script, payload, version, level and mask that were
  -- written, and the count is exactly the number of block codewords that differ.
  pub mark_is_read : info_flips (layout_of v) mark square ≤ 8
      → read_of square (side_of v) p s r ≡ record {
        number = 0;
        receipt = receipt_of v level mask (changed v level mask square mark) (nearest_in v square).distance (length payload) (length script);
        payload = payload ++ drop (length payload) p;
        script = script ++ drop (length script) s;
      }
  mark_is_read few =
      scratched_mark_is_read v level mask script payload before mark bytes made square size (λ i. omega (arith, modules i))
      (λ j h. back.few_meet v level mask square mark modules j (reach j h)) p s r receipt room-p room-s (back.flips_changed v mark square modules few)

  -- Read with known version, level, mask does so whatever the information modules are; its receipt shows distance 0.
  pub mark_is_read_known : read_known_of square v level mask p s r ≡ record {
    number = 0;
    receipt = receipt_of v level mask (changed v level mask square mark) 0 (length payload) (length script);
    payload = payload ++ drop (length payload) p;
    script = script ++ drop (length script) s;
  }
  mark_is_read_known =
      scratched_mark_is_read_known v level mask script payload before mark bytes made square size (λ i. omega (arith, modules i))
      (λ j h. back.few_meet v level mask square mark modules j (reach j h)) p s r receipt room-p room-s

-- ---- 2. Any square that passes the refusals before 15 and 6 (11.9 to 11.12)

-- A square that passes refusals 1 to 4 of Read a square, where the receipt has 12 bytes. Its version is its side's, level and mask are the
-- nearest.
module _ (sq : List ℕ) (side : ℕ) (p s r : List ℕ) (receipt : length r ≡ 12) (passes : read_refusal side sq ≡ 0) where
  abbrev pub version : ℕ
  version = side_version side

  abbrev pub level : ℕ
  level = (nearest_in (side_version side) sq).level

  abbrev pub mask : ℕ
  mask = (nearest_in (side_version side) sq).mask

  abbrev pub flips : ℕ
  flips = (nearest_in (side_version side) sq).distance

  abbrev low : 1 ≤ version
  low = (any.ranged sq side p s r receipt passes).0

  abbrev high : version ≤ 84
  high = (any.ranged sq side p s r receipt passes).1

  abbrev body : read_of sq side p s r ≡ body_of version level mask flips sq p s
  body = any.read_body sq side p s r receipt passes

  -- Block j is the first that is not accepted. If more of its codewords are erased than it has parity, the answer is 15, and payload and
  -- script are left ..
  pub first_is_fifteen : (j : ℕ) → FirstRefused version level mask sq j → parity_in version level j < erased_at version level sq j → read_of sq side p s r ≡ refused 15 p s
  first_is_fifteen j F h = body ∙ any.first_fifteen version level mask flips sq p s low high (level_range version sq) j F h

  -- .. and 15 comes only then.
  pub fifteen_is_first : (read_of sq side p s r).number ≡ 15 → (j : ℕ) × FirstRefused version level mask sq j × (parity_in version level j < erased_at version level sq j)
  fifteen_is_first e = any.fifteen_first version level mask flips sq p s low high (level_range version sq) (sym (ap (λ (x : Reading). x.number) body) ∙ e)

  -- If not, the answer is 6 ..
  pub first_is_six : (j : ℕ) → FirstRefused version level mask sq j → erased_at version level sq j ≤ parity_in version level j → read_of sq side p s r ≡ refused 6 p s
  first_is_six j F h = body ∙ any.first_six version level mask flips sq p s low high (level_range version sq) j F h

  -- .. and 6 comes only then.
  pub six_is_first : (read_of sq side p s r).number ≡ 6 → (j : ℕ) × FirstRefused version level mask sq j × (erased_at version level sq j ≤ parity_in version level j)
  six_is_first e = any.six_first version level mask flips sq p s low high (level_range version sq) (sym (ap (λ (x : Reading). x.number) body) ∙ e)

  -- No block has two codewords that its rule admits.
  pub no_block_admits_two : (j : ℕ) → j < block_count version level → (u w : List ℕ) → Admits version level mask sq j u → Admits version level mask sq j w → u ≡ w
  no_block_admits_two = any.no_two version level mask flips sq p s low high (level_range version sq)

  -- The corrections of a block are the places in which it differs from its codeword.
  pub corrections_are : (j : ℕ) → j < block_count version level → (w : List ℕ) → Admits version level mask sq j w
      → corrections_at version level mask sq j ≡ distance (block_in version level mask sq j) w
  corrections_are = any.corrections version level mask flips sq p s low high (level_range version sq)

  -- When each has one, each is set to it: payload and script, or the refusal, are what Segments from data gives for their data parts, and
  -- the count is the number of places in which the square's blocks differ from them ..
  pub each_is_set : (ws : List (List ℕ)) → EachAdmitted version level mask sq ws → read_of sq side p s r ≡ set_to version level mask flips sq ws p s
  each_is_set ws E = body ∙ any.each_body version level mask flips sq p s low high (level_range version sq) ws E

  -- .. and each has one wherever the answer is neither 15 nor 6.
  pub others_are_set : (read_of sq side p s r).number ≢ 15 → (read_of sq side p s r).number ≢ 6
      → (ws : List (List ℕ)) × EachAdmitted version level mask sq ws × (read_of sq side p s r ≡ set_to version level mask flips sq ws p s)
  others_are_set a b =
      let is = ap (λ (x : Reading). x.number) body in
      let x = any.other_each version level mask flips sq p s low high (level_range version sq) (λ e. b (is ∙ e)) (λ e. a (is ∙ e)) in
      (x.0, x.1, each_is_set x.0 x.1)

  -- So, where no module is unknown:
  module _ (modules : (i : ℕ) → get_or sq i 0 < 2) where
    -- If some block has no codeword within floor(parity / 2) places, the answer is 6, and payload and script are left ..
    pub lost_is_six : (j : ℕ) → j < block_count version level → ((w : List ℕ) → InReach version level mask sq j w → ⊥) → read_of sq side p s r ≡ refused 6 p s
    lost_is_six j h e = body ∙ any.lost_six version level mask flips sq p s low high (level_range version sq) modules j h e

    -- .. and 6 comes only then.
    pub six_is_lost : (read_of sq side p s r).number ≡ 6 → (j : ℕ) × (j < block_count version level) × ((w : List ℕ) → InReach version level mask sq j w → ⊥)
    six_is_lost e = any.six_lost version level mask flips sq p s low high (level_range version sq) modules (sym (ap (λ (x : Reading). x.number) body) ∙ e)

    -- 15 never comes.
    pub never_fifteen : (read_of sq side p s r).number ≢ 15
    never_fifteen e = any.never_fifteen version level mask flips sq p s low high (level_range version sq) modules (sym (ap (λ (x : Reading). x.number) body) ∙ e)

    -- The codewords that are admitted are those within floor(parity / 2) places, of which no block has two.
    pub admits_is_in_reach : (j : ℕ) (w : List ℕ) → Admits version level mask sq j w ≡ InReach version level mask sq j w
    admits_is_in_reach = any.in_admits version level mask flips sq p s low high (level_range version sq) modules

    abbrev back_in : (j : ℕ) (w : List ℕ) → InReach version level mask sq j w → Admits version level mask sq j w
    back_in j w = subst (λ (X : Type 0). X) (sym (admits_is_in_reach j w))

    pub no_block_has_two : (j : ℕ) → j < block_count version level → (u w : List ℕ) → InReach version level mask sq j u → InReach version level mask sq j w → u ≡ w
    no_block_has_two j h u w a b = no_block_admits_two j h u w (back_in j u a) (back_in j w b)

    -- The corrections of a block are the places in which it differs from its codeword within floor(parity / 2) places.
    pub in_reach_corrections_are : (j : ℕ) → j < block_count version level → (w : List ℕ) → InReach version level mask sq j w
        → corrections_at version level mask sq j ≡ distance (block_in version level mask sq j) w
    in_reach_corrections_are j h w a = corrections_are j h w (back_in j w a)

    -- When each has one, each is set to it ..
    pub each_in_reach_is_set : (ws : List (List ℕ)) → EachInReach version level mask sq ws → read_of sq side p s r ≡ set_to version level mask flips sq ws p s
    each_in_reach_is_set ws E = each_is_set ws (any.each_in version level mask flips sq p s low high (level_range version sq) modules ws E)

    -- .. and each has one wherever the answer is not 6.
    pub not_six_is_set : (read_of sq side p s r).number ≢ 6 → (ws : List (List ℕ)) × EachInReach version level mask sq ws × (read_of sq side p s r ≡ set_to version level mask flips sq ws p s)
    not_six_is_set a =
        let x = others_are_set never_fifteen a in (x.0, any.each_out version level mask flips sq p s low high (level_range version sq) modules x.0 x.1, x.2)

-- A square that Read a square accepts passes its first refusals, so that all of this holds for it.
pub accepted_passes : (sq : List ℕ) (side : ℕ) (p s r : List ℕ) → (read_of sq side p s r).number ≡ 0 → (length r ≡ 12) × (read_refusal side sq ≡ 0)
unfolding read_of
accepted_passes sq side p s r e = any.begins r p s (read_refusal side sq) _ e

-- The same for Read with known version, level, mask.
module _ (sq : List ℕ) (v l k : ℕ) (p s r : List ℕ) (receipt : length r ≡ 12) (passes : known_refusal v l k sq ≡ 0) where
  abbrev in_range : Ranges v l k
  in_range = any.in_range sq v l k p s r receipt passes

  abbrev known_body : read_known_of sq v l k p s r ≡ body_of v l k 0 sq p s
  known_body = any.known_body sq v l k p s r receipt passes

  -- Block j is the first that is not accepted. If more of its codewords are erased than it has parity, the answer is 15, and payload and
  -- script are left ..
  pub known_first_is_fifteen : (j : ℕ) → FirstRefused v l k sq j → parity_in v l j < erased_at v l sq j → read_known_of sq v l k p s r ≡ refused 15 p s
  known_first_is_fifteen j F h = known_body ∙ any.first_fifteen v l k 0 sq p s in_range.low in_range.high in_range.level j F h

  -- .. and 15 comes only then.
  pub known_fifteen_is_first : (read_known_of sq v l k p s r).number ≡ 15 → (j : ℕ) × FirstRefused v l k sq j × (parity_in v l j < erased_at v l sq j)
  known_fifteen_is_first e = any.fifteen_first v l k 0 sq p s in_range.low in_range.high in_range.level (sym (ap (λ (x : Reading). x.number) known_body) ∙ e)

  -- If not, the answer is 6 ..
  pub known_first_is_six : (j : ℕ) → FirstRefused v l k sq j → erased_at v l sq j ≤ parity_in v l j → read_known_of sq v l k p s r ≡ refused 6 p s
  known_first_is_six j F h = known_body ∙ any.first_six v l k 0 sq p s in_range.low in_range.high in_range.level j F h

  -- .. and 6 comes only then.
  pub known_six_is_first : (read_known_of sq v l k p s r).number ≡ 6 → (j : ℕ) × FirstRefused v l k sq j × (erased_at v l sq j ≤ parity_in v l j)
  known_six_is_first e = any.six_first v l k 0 sq p s in_range.low in_range.high in_range.level (sym (ap (λ (x : Reading). x.number) known_body) ∙ e)

  -- No block has two codewords that its rule admits.
  pub known_no_block_admits_two : (j : ℕ) → j < block_count v l → (u w : List ℕ) → Admits v l k sq j u → Admits v l k sq j w → u ≡ w
  known_no_block_admits_two = any.no_two v l k 0 sq p s in_range.low in_range.high in_range.level

  -- The corrections of a block are the places in which it differs from its codeword.
  pub known_corrections_are : (j : ℕ) → j < block_count v l → (w : List ℕ) → Admits v l k sq j w
      → corrections_at v l k sq j ≡ distance (block_in v l k sq j) w
  known_corrections_are = any.corrections v l k 0 sq p s in_range.low in_range.high in_range.level

  -- When each has one, each is set to it: payload and script, or the refusal, are what Segments from data gives for their data parts, and
  -- the count is the number of places in which the square's blocks differ from them ..
  pub known_each_is_set : (ws : List (List ℕ)) → EachAdmitted v l k sq ws → read_known_of sq v l k p s r ≡ set_to v l k 0 sq ws p s
  known_each_is_set ws E = known_body ∙ any.each_body v l k 0 sq p s in_range.low in_range.high in_range.level ws E

  -- .. and each has one wherever the answer is neither 15 nor 6.
  pub known_others_are_set : (read_known_of sq v l k p s r).number ≢ 15 → (read_known_of sq v l k p s r).number ≢ 6
      → (ws : List (List ℕ)) × EachAdmitted v l k sq ws × (read_known_of sq v l k p s r ≡ set_to v l k 0 sq ws p s)
  known_others_are_set a b =
      let is = ap (λ (x : Reading). x.number) known_body in
      let x = any.other_each v l k 0 sq p s in_range.low in_range.high in_range.level (λ e. b (is ∙ e)) (λ e. a (is ∙ e)) in
      (x.0, x.1, known_each_is_set x.0 x.1)

  -- So, where no module is unknown:
  module _ (modules : (i : ℕ) → get_or sq i 0 < 2) where
    -- If some block has no codeword within floor(parity / 2) places, the answer is 6, and payload and script are left ..
    pub known_lost_is_six : (j : ℕ) → j < block_count v l → ((w : List ℕ) → InReach v l k sq j w → ⊥) → read_known_of sq v l k p s r ≡ refused 6 p s
    known_lost_is_six j h e = known_body ∙ any.lost_six v l k 0 sq p s in_range.low in_range.high in_range.level modules j h e

    -- .. and 6 comes only then.
    pub known_six_is_lost : (read_known_of sq v l k p s r).number ≡ 6 → (j : ℕ) × (j < block_count v l) × ((w : List ℕ) → InReach v l k sq j w → ⊥)
    known_six_is_lost e = any.six_lost v l k 0 sq p s in_range.low in_range.high in_range.level modules (sym (ap (λ (x : Reading). x.number) known_body) ∙ e)

    -- 15 never comes.
    pub known_never_fifteen : (read_known_of sq v l k p s r).number ≢ 15
    known_never_fifteen e = any.never_fifteen v l k 0 sq p s in_range.low in_range.high in_range.level modules (sym (ap (λ (x : Reading). x.number) known_body) ∙ e)

    -- The codewords that are admitted are those within floor(parity / 2) places, of which no block has two.
    pub known_admits_is_in_reach : (j : ℕ) (w : List ℕ) → Admits v l k sq j w ≡ InReach v l k sq j w
    known_admits_is_in_reach = any.in_admits v l k 0 sq p s in_range.low in_range.high in_range.level modules

    abbrev known_back_in : (j : ℕ) (w : List ℕ) → InReach v l k sq j w → Admits v l k sq j w
    known_back_in j w = subst (λ (X : Type 0). X) (sym (known_admits_is_in_reach j w))

    pub known_no_block_has_two : (j : ℕ) → j < block_count v l → (u w : List ℕ) → InReach v l k sq j u → InReach v l k sq j w → u ≡ w
    known_no_block_has_two j h u w a b = known_no_block_admits_two j h u w (known_back_in j u a) (known_back_in j w b)

    -- The corrections of a block are the places in which it differs from its codeword within floor(parity / 2) places.
    pub known_in_reach_corrections_are : (j : ℕ) → j < block_count v l → (w : List ℕ) → InReach v l k sq j w
        → corrections_at v l k sq j ≡ distance (block_in v l k sq j) w
    known_in_reach_corrections_are j h w a = known_corrections_are j h w (known_back_in j w a)

    -- When each has one, each is set to it ..
    pub known_each_in_reach_is_set : (ws : List (List ℕ)) → EachInReach v l k sq ws → read_known_of sq v l k p s r ≡ set_to v l k 0 sq ws p s
    known_each_in_reach_is_set ws E = known_each_is_set ws (any.each_in v l k 0 sq p s in_range.low in_range.high in_range.level modules ws E)

    -- .. and each has one wherever the answer is not 6.
    pub known_not_six_is_set : (read_known_of sq v l k p s r).number ≢ 6 → (ws : List (List ℕ)) × EachInReach v l k sq ws × (read_known_of sq v l k p s r ≡ set_to v l k 0 sq ws p s)
    known_not_six_is_set a =
        let x = known_others_are_set known_never_fifteen a in (x.0, any.each_out v l k 0 sq p s in_range.low in_range.high in_range.level modules x.0 x.1, x.2)

pub known_accepted_passes : (sq : List ℕ) (v l k : ℕ) (p s r : List ℕ) → (read_known_of sq v l k p s r).number ≡ 0
    → (length r ≡ 12) × (known_refusal v l k sq ≡ 0)
unfolding read_known_of
known_accepted_passes sq v l k p s r e = any.begins r p s (known_refusal v l k sq) _ e

-- ---- 3. Leftover modules (11.15)

-- Each leftover module of a mark, whose script is a list of bytes, is a zero bit under the mask: dark exactly where the mask inverts.
pub leftover_is_masked : (v level mask : ℕ) (script payload before mark : List ℕ) (bytes : (i : ℕ) → get_or script i 0 < 256)
    → write_of v level mask script payload before ≡ record { number = 0; square = mark }
    → (i : ℕ) → Leftover v i → get_or mark i 0 ≡ mask_bit (side_of v) mask i
leftover_is_masked = leftovers.leftover_masked

-- Reading ignores them: two squares of one size with module bytes 0, 1 and 2 that differ in leftover modules alone get the same answer, with
-- the same receipt, payload and script.
module _ (a b : List ℕ) (size : length a ≡ length b) (modules-a : (i : ℕ) → get_or a i 0 < 3) (modules-b : (i : ℕ) → get_or b i 0 < 3) where
  pub leftovers_are_ignored : (side : ℕ) → ((i : ℕ) → (Leftover (side_version side) i → ⊥) → get_or a i 0 ≡ get_or b i 0)
      → (p s r : List ℕ) → read_of a side p s r ≡ read_of b side p s r
  leftovers_are_ignored = leftovers.read_alike a b size modules-a modules-b

  pub known_leftovers_are_ignored : (v : ℕ) → ((i : ℕ) → (Leftover v i → ⊥) → get_or a i 0 ≡ get_or b i 0)
      → (level mask : ℕ) (p s r : List ℕ) → read_known_of a v level mask p s r ≡ read_known_of b v level mask p s r
  known_leftovers_are_ignored = leftovers.known_alike a b size modules-a modules-b

-- ---- 4. The smallest mark (11.16 to 11.18)

-- Write the smallest mark has answered 0 and version v for a level, mask, script and payload; the square was `before` and is `after`.
module _ (level mask : ℕ) (script payload before after : List ℕ) (v : ℕ)
    (made : smallest_of level mask script payload before ≡ record { number = 0; version = v; square = after }) where
  -- This version holds script and payload ..
  pub smallest_holds : Holds level script payload v
  smallest_holds = small.version_holds level mask script payload before v after made

  -- .. and no lower one does.
  pub no_lower_holds : (u : ℕ) → u < v → Holds level script payload u → ⊥
  no_lower_holds u h = small.none_before level script payload u (omega (arith, small.is_found level mask script payload before v after made))

  -- So Write a square writes at no lower version, into any square.
  pub no_lower_is_written : (u : ℕ) (square mark : List ℕ) → u < v
      → write_of u level mask script payload square ≡ record { number = 0; square = mark } → ⊥
  no_lower_is_written u square mark h e = no_lower_holds u h (small.written_holds level mask script payload before u square mark e)

  -- The first s × s bytes are exactly those that Write a square makes at v, so that all that is said above of marks holds of them ..
  pub smallest_is_written : (square : List ℕ) → length square ≡ side_of v * side_of v
      → write_of v level mask script payload square ≡ record { number = 0; square = take (side_of v * side_of v) after }
  smallest_is_written = small.written_there level mask script payload before v after made

  -- .. and the bytes beyond them stay.
  pub beyond_stays : drop (side_of v * side_of v) after ≡ drop (side_of v * side_of v) before
  beyond_stays = small.beyond_is level mask script payload before v after made

module _ (level mask : ℕ) (script payload before : List ℕ) where
  -- 14 means that no version holds script and payload.
  pub fourteen_is_none : (smallest_of level mask script payload before).number ≡ 14 → (v : ℕ) → Holds level script payload v → ⊥
  fourteen_is_none = small.fourteen level mask script payload before

  -- Level and mask in their ranges, and neither 11 nor 12 nor 8 for script and payload.
  module _ (level_in : level ≤ 3) (mask_in : mask ≤ 3) (accepted : segments_refusal (commands_of script payload) payload ≡ 0) where
    -- Then 14 is answered where no version holds them ..
    pub none_is_fourteen : ((v : ℕ) → Holds level script payload v → ⊥)
        → smallest_of level mask script payload before ≡ record { number = 14; version = 0; square = before }
    none_is_fourteen = small.none_fourteen level mask script payload before level_in mask_in accepted

    -- .. and 0 where some version does, and the square is long enough for it.
    pub some_is_found : (v : ℕ) → Holds level script payload v → side_of v * side_of v ≤ length before
        → (smallest_of level mask script payload before).number ≡ 0
    some_is_found = small.some_found level mask script payload before level_in mask_in accepted

  -- So whatever Write a square writes at some version is written, into any square that is no shorter.
  pub written_is_found : (v : ℕ) (square mark : List ℕ) → write_of v level mask script payload square ≡ record { number = 0; square = mark }
      → length square ≤ length before → (smallest_of level mask script payload before).number ≡ 0
  written_is_found = small.written_found level mask script payload before

-- ---- 5. Erased codewords (6.5)

module _ (v : ℕ) (sq : List ℕ) where
  -- The codeword at stream place q has a flag that is not 0 where one of its modules is unknown ..
  pub unknown_is_erased : (q i : ℕ) → ModuleOf v q i → get_or sq i 0 ≡ 2 → get_or (flags_from v sq) q 0 ≢ 0
  unknown_is_erased = flags.unknown_erased v sq

  -- .. and only there.
  pub erased_is_unknown : (q : ℕ) → get_or (flags_from v sq) q 0 ≢ 0 → (i : ℕ) × ModuleOf v q i × (get_or sq i 0 ≡ 2)
  erased_is_unknown = flags.erased_unknown v sq
