-- A block with erased places is repaired exactly where it has a codeword that its rule admits. Assumes nothing.
use Rattle.general.proofs.Names.{◌≡◌, refl, sym, ap, ◌∙◌, subst, ◌≢◌, inl, inr, Bool, true, false, cond, true≢false, List, ℕ, ◌+◌, ◌*◌, ◌≤◌, ◌<◌, arith, eq-eqb, ne_eqb}
use Rattle.general.proofs.Names.{T, eqb, lt-ltb, le-ltb, zero-le, ℕ_discrete, length}
use Rattle.field.proofs.Field.{Primitive, primitive}
use Rattle.field.proofs.Instances.{primitive_163}
use Rattle.reed_solomon.specs.Block.{is_codeword, distance, unfit}
use Rattle.reed_solomon.specs.Erased.{erasures, unerased_distance, admitted}
use Rattle.reed_solomon.specs.Inner.{Syndromes, is_clean, Locates, zeros_of}
use Rattle.reed_solomon.proofs.Search.{Bytes}
use Rattle.reed_solomon.proofs.Distance.{distance_self, zeros_more, zeros_same}
use Rattle.reed_solomon.proofs.Codeword.{codeword_zero, zero_codeword, difference}
use Rattle.reed_solomon.proofs.Clean.{clean_yes, clean_zero}
use Rattle.reed_solomon.proofs.Erased.{NearErased, none_admitted, near_admits, erased_none, admits_found}
use Rattle.remainder.specs.declared.Register.{Register}
use Rattle.remainder.specs.Words.{Remains}
use Rattle.remainder.specs.Words as Words
use Rattle.remainder.proofs.Lowered.{none_remains}
use Rattle.corrector.specs.Correct.{BlockOutcome, refused_block, settled, correct_of}
use Rattle.corrector.specs.Inner.{Applied}
use Rattle.erasures.specs.Inner.{Rooted, Reduction}
use Rattle.erasures.proofs.Locating.{l_le, few_unerased, locates}
use Rattle.erasure_corrector.specs.Erased.{correct_erased_of}
use Rattle.erasure_corrector.specs.Inner.{HasErased}

-- ---- what is counted

-- one place more: r is 1 if it is erased
pub erased_next : (f : ℕ → ℕ) (k n r : ℕ) → n + zeros_of k f ≡ k → r ≡ cond (eqb (f k) 0) 0 1 → n + r + zeros_of (k + 1) f ≡ k + 1
erased_next f k n r e q = elim (ℕ_discrete (f k) 0) [
  | yes z ↦ omega (arith, zeros_more f k z, rw (eq-eqb (f k) 0 z) at q)
  | no d ↦ omega (arith, zeros_same f k d, rw (ne_eqb (f k) 0 d) at q)
]

-- ---- which rule a block has

module _ (poly first parity : ℕ) (flags w : List ℕ) where
  abbrev rest : BlockOutcome
  rest = settled w (admitted poly first parity flags w)

  pub unfit_refused : unfit parity w ≡ true → refused_block 5 w ≡ correct_erased_of poly first parity flags w
  unfolding correct_erased_of
  unfit_refused e = sym (simp e)

  pub many_refused : unfit parity w ≡ false → parity < erasures flags → refused_block 15 w ≡ correct_erased_of poly first parity flags w
  unfolding correct_erased_of
  many_refused e h = sym (simp (e, lt-ltb parity (erasures flags) h))

  pub fit_settled : unfit parity w ≡ false → erasures flags ≤ parity → rest ≡ correct_erased_of poly first parity flags w
  unfolding correct_erased_of
  fit_settled e h = sym (simp (e, le-ltb parity (erasures flags) h))

  -- a block with none erased is treated as before
  pub none_erased : erasures flags ≡ 0 → correct_of poly first parity w ≡ correct_erased_of poly first parity flags w
  unfolding correct_erased_of correct_of
  none_erased e = sym (simp (none_admitted poly first parity flags w e, e, le-ltb parity 0 zero-le))

-- ---- a block with erased places

-- what a locator that was applied makes of a block is the answer for it, whether the block was repaired or not
pub record Settles (answer : BlockOutcome) (done : Bool) (m : ℕ) (w' : List ℕ) : Type 0 where
  pub repaired : true ≡ done → record { number = 0; count = m; block = w' } ≡ answer
  pub lost : false ≡ done → refused_block 6 w' ≡ answer

module _ {poly parity : ℕ} {flags w : List ℕ} {f : ℕ} (P : Primitive poly) (first : ℕ) (bw : Bytes w) (B : HasErased parity flags w f) where
  abbrev answer : BlockOutcome
  answer = settled w (admitted poly first parity flags w)

  erased_some : erasures flags ≢ 0
  erased_some e = omega (arith, B.some, B.are)

  -- a codeword in reach is what the block becomes
  pub near_settled : (c : List ℕ) → NearErased poly first parity flags w c → (m : ℕ) → m ≡ distance w c → record { number = 0; count = m; block = c } ≡ answer
  unfolding settled
  near_settled c N m e =
      ap (λ (k : ℕ). record { number = 0; count = k; block = c }) e
      ∙ sym (ap (settled w) (admits_found poly first parity flags w P B.small B.size c (near_admits poly first parity flags w erased_some c N)))

  lost_settled : ((c : List ℕ) → NearErased poly first parity flags w c → ⊥) → refused_block 6 w ≡ answer
  unfolding settled
  lost_settled h = sym (ap (settled w) (erased_none poly first parity flags w erased_some h))

  -- a codeword is its own
  pub itself_settled : T (is_codeword poly first parity w) → record { number = 0; count = 0; block = w } ≡ answer
  itself_settled t =
      near_settled w (record { size = refl; bytes = bw; code = t; few = omega (arith, B.fit, B.are); near = inl refl }) 0 (sym (distance_self w))

  module _ {s : List ℕ} (Y : Syndromes poly first parity w s) where
    pub clean_settled : true ≡ is_clean parity s → record { number = 0; count = 0; block = w } ≡ answer
    clean_settled t = itself_settled (zero_codeword poly first parity w (λ j h. sym (Y.are j h) ∙ clean_zero parity s t j h))

    module _ (dirty : false ≡ is_clean parity s) {p : List ℕ} {l : ℕ} (A : Reduction poly parity flags s f p l) where
      -- the block is no codeword itself
      cost : (c : List ℕ) → NearErased poly first parity flags w c → 2 * unerased_distance flags w c + f + 2 ≤ parity
      cost c N = elim N.near [
        | inr h ↦ omega (arith, B.are)
        | inl e ↦ absurd (true≢false (clean_yes parity s
            (λ j h. Y.are j h ∙ codeword_zero poly first parity w (subst (λ (x : List ℕ). T (is_codeword poly first parity x)) (sym e) N.code) j h) ∙ sym dirty))
      ]

      -- a locator that is too long
      pub long_settled : parity < l + l + f + 2 → refused_block 6 w ≡ answer
      long_settled o = lost_settled (λ c N. omega (
        arith,
        cost c N,
        l_le poly P first parity flags w B.size B.small bw s Y f B.fit p l A c N.size N.bytes N.code (omega (arith, cost c N)),
      ))

      -- a locator that was applied
      module _ {h : List ℕ} {L : ℕ} (H : Rooted poly (length flags) flags (length flags) l p L h)
          {b : Bool} {m : ℕ} {w' : List ℕ} (X : Applied poly first parity w s h L b m w') where
        located : (c : List ℕ) → NearErased poly first parity flags w c → Locates poly first parity (length w) (difference w c) s h L
        located c N =
            locates poly P first parity flags w B.size B.small bw s Y f B.fit p l A h L H c N.size N.bytes N.code (omega (arith, cost c N))

        -- what is repaired is a codeword in reach
        pub applied_settled : l + l + f + 2 ≤ parity → Settles answer b m w'
        applied_settled near = record {
          repaired = λ e.
              let x = X.fixed e in
              near_settled w'
              (record {
                size = x.size;
                bytes = x.bytes;
                code = x.code;
                few = omega (arith, B.fit, B.are);
                near = inr (omega (
                  arith,
                  B.are,
                  few_unerased poly P first parity flags w B.size B.small bw s Y f B.fit p l A h L H w' x.size x.root,
                ));
              })
              m x.counted;
          lost = λ e. ap (refused_block 6) (X.left e) ∙ lost_settled (λ c N. true≢false ((X.found c N.size (located c N)).0 ∙ sym e));
        }

-- a block of which division leaves nothing
pub none_settled : {parity : ℕ} {flags w : List ℕ} {f : ℕ} {r : Register} → Bytes w → HasErased parity flags w f → Remains 0x163 1 parity w r → r ≡ Words.none
    → record { number = 0; count = 0; block = w } ≡ settled w (admitted 0x163 1 parity flags w)
none_settled {parity} {flags} {w} bw B R e =
    itself_settled (primitive 0x163 primitive_163) 1 bw B (zero_codeword 0x163 1 parity w (none_remains parity w (rw e at R)))
