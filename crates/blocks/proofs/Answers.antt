-- What the blocks of a row are answered with, and the stream that is left. Assumes nothing.
use Rattle.general.proofs.Names.{◌≡◌, refl, sym, ap, ◌∙◌, List, ◌++◌, ℕ, zero, suc, ◌≤◌, ◌<◌, arith, length, take, drop}
use Rattle.corrector.specs.Correct.{BlockOutcome}
use Rattle.block_table.specs.Blocks.{Shape, total_size, joined}
use Rattle.blocks.specs.declared.Blocks.{Blocks}
use Rattle.blocks.specs.declared.Blocks.TheVariants.{Refused}
use Rattle.general.proofs.Choices.{never}
use Rattle.blocks.specs.Blockwise.{first_refused, count_of, blocks_of, corrected, left_of, number_of, corrections_of}
use Rattle.blocks.specs.Inner.{StreamOutcome, Corrects, Numbered}
use Rattle.blocks.proofs.Rule.{corrected_front}
use Rattle.blocks.proofs.Corrects.{answer_from, outcome_is}
use Rattle.blocks.proofs.Theorems.{left_accepted}

answer_from_number : (k n : ℕ) → number_of (answer_from k n) ≡ k
unfolding number_of
answer_from_number zero n = refl
answer_from_number (suc k) n = refl

answer_from_count : (k n : ℕ) → k ≡ 0 → corrections_of (answer_from k n) ≡ n
unfolding corrections_of
answer_from_count zero n e = refl
answer_from_count (suc k) n e = absurd (omega arith)

refused_pos : (k n m : ℕ) → answer_from k n ≡ Refused m → 0 < m
unfolding number_of
refused_pos zero n m e = never cc
refused_pos (suc k) n m e = omega (arith, ap number_of e)

pub row_answered : (fl : List ℕ) (bs : List Shape) (s s' : List ℕ) (x : Blocks) → total_size bs ≤ length s → Corrects fl bs 0 s s' x
    → (number_of x ≡ first_refused (corrected bs fl (take (total_size bs) s)))
    × (number_of x ≡ 0 → (corrections_of x ≡ count_of (corrected bs fl (take (total_size bs) s)))
    × (s' ≡ joined (blocks_of (corrected bs fl (take (total_size bs) s))) ++ drop (total_size bs) s))
    × (s' ≡ left_of bs fl s) × Numbered x
row_answered fl bs s s' x h C =
    let os = corrected bs fl s in
    let f = corrected_front bs fl s h in
    let q = C.is ∙ outcome_is fl bs 0 s (omega arith) in
    let answer : x ≡ answer_from (first_refused os) (count_of os) = ap (λ (p : StreamOutcome). p.answer) q in
    let left : s' ≡ left_of bs fl s = ap (λ (p : StreamOutcome). p.stream) q in
    let n : number_of x ≡ first_refused os = ap number_of answer ∙ answer_from_number (first_refused os) (count_of os) in (
      n ∙ ap first_refused (sym f),
      λ e. (
        ap corrections_of answer ∙ answer_from_count (first_refused os) (count_of os) (sym n ∙ e) ∙ ap count_of (sym f),
        left ∙ left_accepted bs fl s (sym n ∙ e) ∙ ap (λ (l : List BlockOutcome). joined (blocks_of l) ++ drop (total_size bs) s) (sym f),
      ),
      left,
      record { pos = λ k e. refused_pos (first_refused os) (count_of os) k (sym answer ∙ e) },
    )
