-- A block is repaired exactly where it has a codeword in reach. Assumes nothing.
use Rattle.general.proofs.Names.{◌≡◌, refl, sym, ap, ◌∙◌, Bool, true, false, cond, true≢false, List, ℕ, ◌+◌, ◌≤◌, ◌<◌, arith, length}
use Rattle.general.proofs.Names.{take-length}
use Rattle.field.specs.Field.{power}
use Rattle.field.proofs.Field.{Primitive, primitive}
use Rattle.field.proofs.Instances.{primitive_163}
use Rattle.reed_solomon.specs.Block.{eval, nearest, unfit}
use Rattle.remainder.specs.declared.Register.{Register}
use Rattle.remainder.specs.Words.{IsTabled, Remains, Leaves}
use Rattle.remainder.specs.Words as Words
use Rattle.remainder.proofs.Lowered.{none_remains}
use Rattle.corrector.specs.Correct.{refused_block, settled, correct_of}
use Rattle.reed_solomon.specs.Inner.{Syndromes, is_clean, Shortest}
use Rattle.corrector.specs.Inner.{Applied}
use Rattle.reed_solomon.proofs.Search.{Bytes}
use Rattle.reed_solomon.proofs.Distance.{distance_self}
use Rattle.reed_solomon.proofs.Codeword.{zero_codeword}
use Rattle.reed_solomon.proofs.Nearest.{Near, near_none, near_some}
use Rattle.reed_solomon.proofs.Clean.{clean_zero}
use Rattle.reed_solomon.proofs.Decode.{few, l_le, locates}

-- ---- the refusals 5

module _ (poly first parity : ℕ) (w : List ℕ) where
  pub unfit_refused : unfit parity w ≡ true → refused_block 5 w ≡ correct_of poly first parity w
  unfolding correct_of
  unfit_refused e = ap (λ (b : Bool). cond b (refused_block 5 w) (settled w (nearest poly first parity w))) (sym e)

  pub fit_settled : unfit parity w ≡ false → settled w (nearest poly first parity w) ≡ correct_of poly first parity w
  unfolding correct_of
  fit_settled e = ap (λ (b : Bool). cond b (refused_block 5 w) (settled w (nearest poly first parity w))) (sym e)

-- ---- a block with no error

-- a codeword is its own
pub zero_settled : (poly : ℕ) → Primitive poly → (first parity : ℕ) (w : List ℕ) → length w ≤ 255 → Bytes w
    → ((j : ℕ) → j < parity → eval poly (power poly (first + j)) w ≡ 0)
    → record { number = 0; count = 0; block = w } ≡ settled w (nearest poly first parity w)
unfolding settled
zero_settled poly P first parity w small bw z =
    let N : Near poly first parity w w = record { size = refl; bytes = bw; code = zero_codeword poly first parity w z; near = omega (arith, distance_self w) } in
    sym (ap (settled w) (near_some poly first parity w P small w N) ∙ ap (λ (n : ℕ). record { number = 0; count = n; block = w }) (distance_self w))

-- a division that goes to the end of the block
pub whole_left : {parity k : ℕ} {w : List ℕ} {r : Register} → Leaves parity k w r → IsTabled parity → k ≡ length w → Remains 0x163 1 parity w r
whole_left L T e = rw (e, take-length) at (L.remains T)

-- the field and the first root of Han Xin, however they are named
pub left_as : {poly first parity : ℕ} {w : List ℕ} {r : Register} → Remains 0x163 1 parity w r → poly ≡ 0x163 → first ≡ 1 → Remains poly first parity w r
left_as R p f = rw (p, f) R

-- a block of which nothing is left
pub none_settled : (parity : ℕ) (w : List ℕ) (r : Register) → length w ≤ 255 → Bytes w → Remains 0x163 1 parity w r → r ≡ Words.none
    → record { number = 0; count = 0; block = w } ≡ settled w (nearest 0x163 1 parity w)
none_settled parity w r small bw R e = zero_settled 0x163 (primitive 0x163 primitive_163) 1 parity w small bw (none_remains parity w (rw e at R))

module _ (poly : ℕ) (P : Primitive poly) (first parity : ℕ) (w : List ℕ) (small : length w ≤ 255) (bw : Bytes w)
    (s : List ℕ) (Y : Syndromes poly first parity w s) where
  pub clean_settled : true ≡ is_clean parity s → record { number = 0; count = 0; block = w } ≡ settled w (nearest poly first parity w)
  clean_settled t = zero_settled poly P first parity w small bw (λ j h. sym (Y.are j h) ∙ clean_zero parity s t j h)

  -- no codeword in reach
  refused : ((c : List ℕ) → Near poly first parity w c → ⊥) → refused_block 6 w ≡ settled w (nearest poly first parity w)
  unfolding settled
  refused h = sym (ap (settled w) (near_none poly first parity w h))

  -- ---- with the locator f of length l

  module _ (f : List ℕ) (l : ℕ) (F : Shortest poly s parity f l) where
    -- a locator that is too long
    pub long_settled : parity < l + l → refused_block 6 w ≡ settled w (nearest poly first parity w)
    long_settled h = refused (λ c N. omega (arith, l_le poly P first parity w small bw s Y f l F c N, N.near))

    -- a locator that was applied
    module _ (b : Bool) (m : ℕ) (w' : List ℕ) (A : Applied poly first parity w s f l b m w') where
      pub left_settled : false ≡ b → refused_block 6 w' ≡ settled w (nearest poly first parity w)
      left_settled e =
          ap (refused_block 6) (A.left e)
          ∙ refused (λ c N. true≢false ((A.found c N.size (locates poly P first parity w small bw s Y f l F c N)).0 ∙ sym e))

      -- what is repaired is a codeword in reach
      pub repaired_settled : true ≡ b → l + l ≤ parity → record { number = 0; count = m; block = w' } ≡ settled w (nearest poly first parity w)
      unfolding settled
      repaired_settled e h =
          let x = A.fixed e in
          let N : Near poly first parity w w' = record {
            size = x.size;
            bytes = x.bytes;
            code = x.code;
            near = omega (arith, few poly P first parity w small bw s Y f l F w' x.root);
          } in
          ap (λ (n : ℕ). record { number = 0; count = n; block = w' }) x.counted ∙ sym (ap (settled w) (near_some poly first parity w P small w' N))
