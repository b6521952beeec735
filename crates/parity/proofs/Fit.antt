-- The refusal 5, and the block that is fit. Assumes nothing.
use Rattle.general.proofs.Names.{◌≡◌, ap, sym, ◌∙◌, Bool, true, false, cond, List, ℕ, ◌-◌, ◌≤◌, arith, length}
use Rattle.reed_solomon.specs.Block.{unfit}
use Rattle.parity.specs.Encode.{Encoding, written_of, encode_of}

module _ (poly first parity : ℕ) (w : List ℕ) where
  abbrev answer : Bool → Encoding
  answer b = cond b (record { number = 5; block = w }) (record { number = 0; block = written_of poly first parity w })

  pub unfit_refused : unfit parity w ≡ true → record { number = 5; block = w } ≡ encode_of poly first parity w
  unfolding encode_of
  unfit_refused e = ap answer (sym e)

  pub fit_written : unfit parity w ≡ false → parity ≤ length w → (w' : List ℕ) → w' ≡ written_of poly first (length w - (length w - parity)) w
      → record { number = 0; block = w' } ≡ encode_of poly first parity w
  unfolding encode_of
  fit_written f h w' e =
      ap (λ (b : List ℕ). record { number = 0; block = b })
      (e ∙ (let q : length w - (length w - parity) ≡ parity = omega arith in ap (λ (n : ℕ). written_of poly first n w) q))
      ∙ ap answer (sym f)
