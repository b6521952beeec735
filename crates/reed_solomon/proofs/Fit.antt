-- Which lengths and parities a block has, test by test. Assumes nothing.
use Rattle.general.proofs.Names.{◌≡◌, ◌≢◌, true, false, List, ℕ, ◌≤◌, ◌<◌, arith, ℕ_discrete, dec_lt, eq-eqb, ne_eqb, le-leb, lt-leb, le-ltb, lt-ltb, length}
use Rattle.reed_solomon.specs.Block.{unfit}

module _ (parity : ℕ) (w : List ℕ) where
  pub unfit_parity : parity ≡ 0 → unfit parity w ≡ true
  unfolding unfit
  unfit_parity e = simp (eq-eqb parity 0 e)

  pub unfit_length : length w ≤ parity → unfit parity w ≡ true
  unfolding unfit
  unfit_length h = elim (ℕ_discrete parity 0) [ yes e ↦ unfit_parity e | no d ↦ simp (ne_eqb parity 0 d, le-leb (length w) parity h) ]

  pub unfit_long : 255 < length w → unfit parity w ≡ true
  unfolding unfit
  unfit_long h = elim (dec_lt parity (length w)) [
    | no d ↦ unfit_length (omega arith)
    | yes l ↦ elim (ℕ_discrete parity 0) [
      | yes e ↦ unfit_parity e
      | no d ↦ simp (ne_eqb parity 0 d, lt-leb (length w) parity l, lt-ltb 255 (length w) h)
    ]
  ]

  pub fit : parity ≢ 0 → parity < length w → length w ≤ 255 → unfit parity w ≡ false
  unfolding unfit
  fit d l h = simp (ne_eqb parity 0 d, lt-leb (length w) parity l, le-ltb 255 (length w) h)
