-- One erased place alone, tried with the byte that makes the first syndrome zero: what is then a codeword is the one in reach. Assumes nothing.
use Rattle.general.proofs.Names.{◌≡◌, refl, sym, ap, ◌∙◌, ◌≢◌, inr, Bool, true, false, cond, true≢false, false≢true, List, ℕ, ◌≤◌, ◌<◌, arith}
use Rattle.general.proofs.Names.{ℕ_discrete, eq-eqb, ne_eqb, eqb, length, set, length-set, get_or-set_same, get_or-set_other, ext_get_or}
use Rattle.field.proofs.Field.{primitive}
use Rattle.field.proofs.Instances.{primitive_163}
use Rattle.reed_solomon.specs.Sum.{seq}
use Rattle.reed_solomon.specs.Block.{distance}
use Rattle.reed_solomon.specs.Erased.{unerased, unerased_distance, admitted}
use Rattle.reed_solomon.proofs.Search.{Bytes}
use Rattle.reed_solomon.proofs.Distance.{distance_self, distance_set, distance_mono}
use Rattle.reed_solomon.proofs.Codeword.{zero_codeword}
use Rattle.reed_solomon.proofs.Erased.{unerased_length, unerased_at}
use Rattle.remainder.specs.declared.Register.{Register}
use Rattle.remainder.specs.Words.{IsTabled, Leaves, Remains}
use Rattle.remainder.specs.Words as Words
use Rattle.remainder.proofs.Lowered.{none_remains}
use Rattle.corrector.specs.Correct.{BlockOutcome, settled}
use Rattle.corrector.proofs.Repairs.{whole_left}
use Rattle.erasure_corrector.specs.Inner.{HasErased, OnlyErased, TriedOne}
use Rattle.erasure_corrector.proofs.Repairs.{near_settled}

pub tried_not : {parity : ℕ} {flags w w' : List ℕ} {f : ℕ} → w' ≡ w → TriedOne parity flags w f false 0 w'
tried_not e = record {
  place = 0;
  byte = 0;
  inside = λ e. absurd (true≢false e);
  only = λ e. absurd (true≢false e);
  is = λ e. absurd (true≢false e);
  code = λ e. absurd (true≢false e);
  counted = λ e. absurd (true≢false e);
  left = λ _. e;
}

-- the byte of before is put back
pub put_back : (w : List ℕ) (k x : ℕ) → k < length w → set (set w k x) k (seq w k) ≡ w
put_back w k x h =
    ext_get_or 0 (set (set w k x) k (seq w k)) w (length-set (set w k x) k (seq w k) ∙ length-set w k x) (λ i o. elim (ℕ_discrete i k) [
      | yes e ↦ ap (seq (set (set w k x) k (seq w k))) e ∙ get_or-set_same (set w k x) k (seq w k) 0 (omega (arith, length-set w k x)) ∙ ap (seq w) (sym e)
      | no d ↦ get_or-set_other (set w k x) k i (seq w k) 0 d ∙ get_or-set_other w k i x 0 d
    ])

pub tried : {parity : ℕ} {flags w : List ℕ} {f : ℕ} (k x m n : ℕ) {r : Register} → k < length w → OnlyErased parity flags f k → IsTabled parity
    → Leaves parity n (set w k x) r → n ≡ length w → r ≡ Words.none → m ≡ cond (eqb (seq w k) x) 0 1 → TriedOne parity flags w f true m (set w k x)
tried {parity} {flags} {w} k x m n {r} h d T L e z c = record {
  place = k;
  byte = x;
  inside = λ _. h;
  only = λ _. d;
  is = λ _. refl;
  code = λ _. zero_codeword 0x163 1 parity (set w k x) (none_remains parity (set w k x) (rw z at (whole_left L T (e ∙ sym (length-set w k x)))));
  counted = λ _. c;
  left = λ e. absurd (false≢true e);
}

-- a block that was repaired so
module _ {parity : ℕ} {flags w : List ℕ} {f : ℕ} (bw : Bytes w) (B : HasErased parity flags w f) {b : Bool} {m : ℕ} {w' : List ℕ} (bw' : Bytes w')
    (O : TriedOne parity flags w f b m w') (done : true ≡ b) where
  abbrev k : ℕ
  k = O.place

  within : k < length flags
  within = omega (arith, O.inside done, B.size)

  is : w' ≡ set w O.place O.byte
  is = O.is done

  size : length w' ≡ length w
  size = ap length is ∙ length-set w k O.byte

  -- the unerased places agree
  agree : (i : ℕ) → seq (unerased flags w) i ≡ seq (unerased flags w') i
  agree i = elim (ℕ_discrete (seq flags i) 0) [
    | no d ↦ unerased_at flags w i B.size ∙ simp (ne_eqb (seq flags i) 0 d) (sym (unerased_at flags w' i (B.size ∙ sym size) ∙ simp (ne_eqb (seq flags i) 0 d)))
    | yes e ↦ unerased_at flags w i B.size ∙ simp (eq-eqb (seq flags i) 0 e)
        (sym (unerased_at flags w' i (B.size ∙ sym size) ∙ simp (eq-eqb (seq flags i) 0 e)
        (ap (λ (x : List ℕ). seq x i) is ∙ get_or-set_other w k i O.byte 0 (λ q. (O.only done).erased within (ap (seq flags) (sym q) ∙ e)))))
  ]

  none_unerased : unerased_distance flags w w' ≤ 0
  unfolding unerased_distance
  none_unerased =
      let l = unerased_length flags w B.size in
      omega (
        arith,
        distance_self (unerased flags w),
        distance_mono (unerased flags w) (unerased flags w) (unerased flags w) (unerased flags w') refl refl
            (l ∙ sym size ∙ sym (unerased_length flags w' (B.size ∙ sym size))) (λ i h q. agree i),
      )

  pub one_settled : record { number = 0; count = m; block = w' } ≡ settled w (admitted 0x163 1 parity flags w)
  one_settled =
      let only = (O.only done).one within in
      near_settled (primitive 0x163 primitive_163) 1 bw B w'
      (record {
        size = size;
        bytes = bw';
        code = O.code done;
        few = omega (arith, B.fit, B.are);
        near = inr (omega (arith, B.are, none_unerased, only.0, only.1));
      })
      m (O.counted done ∙ sym (distance_set w k O.byte (O.inside done)) ∙ sym (ap (distance w) is))

-- a block that was left as it was, over the field of 163 hex however it is named
module _ {parity : ℕ} {flags w : List ℕ} {f : ℕ} {b : Bool} {m : ℕ} {w' : List ℕ} (O : TriedOne parity flags w f b m w') (left : false ≡ b)
    {poly : ℕ} (named : poly ≡ 0x163) where
  pub left_erased : HasErased parity flags w f → HasErased parity flags w' f
  left_erased B = rw (O.left left) B

  pub left_remains : {r : Register} → Remains 0x163 1 parity w r → Remains poly 1 parity w' r
  left_remains R = rw (O.left left, named) R

  pub left_settled : (o : BlockOutcome) → o ≡ settled w' (admitted poly 1 parity flags w') → o ≡ settled w (admitted 0x163 1 parity flags w)
  left_settled o e = rw (O.left left, named) at e
