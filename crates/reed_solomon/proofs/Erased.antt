-- Blocks with erased places: what is counted in them, and what the search for the codeword that is admitted finds. Assumes nothing.
use Rattle.general.proofs.Names.{◌≡◌, refl, sym, ap, ◌∙◌, subst, fun_ext, ◌⊎◌, inl, inr, ◌≢◌, Bool, true, false, cond, ◌&&◌, ◌||◌, none, some, List, [], ◌∷◌}
use Rattle.general.proofs.Names.{zip_with, ℕ, zero, suc, ◌+◌, ◌-◌, ◌*◌, ◌≤◌, ◌<◌, zero-le, arith, ℕ_discrete, eq-eqb, ne_eqb, T, leb, eqb, leb→le, le→leb, eqb→eq, length}
use Rattle.field.proofs.Field.{Primitive, T_and}
use Rattle.reed_solomon.specs.Sum.{seq, degree}
use Rattle.reed_solomon.specs.Block.{is_word, is_codeword, distance, all_words, first_that, in_reach, nearest}
use Rattle.reed_solomon.specs.Erased.{erasures, unerased, unerased_distance, in_reach_erased, admits, admitted, Meets}
use Rattle.reed_solomon.specs.Inner.{zeros_of}
use Rattle.reed_solomon.proofs.Search.{Bytes, found_passing, passing_none, passing_some}
use Rattle.reed_solomon.proofs.Distance.{triangle, distance_self, distance_none}
use Rattle.reed_solomon.proofs.Codeword.{both, near_equal}
use Rattle.reed_solomon.proofs.Nearest.{word_is, is_word_lem, reach_near, near_reach, near_one}

-- ---- what is counted

-- how many are zero, from the first on
zeros_front : (n : ℕ) (f : ℕ → ℕ) → zeros_of (suc n) f ≡ cond (eqb (f 0) 0) 1 0 + zeros_of n (λ i. f (suc i))
unfolding zeros_of
zeros_front zero f = omega arith
zeros_front (suc n) f = omega (arith, zeros_front n f)

-- the places that are erased and those that are not
pub erasures_zeros : (flags : List ℕ) → erasures flags + zeros_of (length flags) (seq flags) ≡ length flags
unfolding erasures zeros_of
erasures_zeros [] = refl
erasures_zeros (f ∷ fs) = elim (ℕ_discrete f 0) [
  | yes e ↦ simp (zeros_front (length fs) (seq (f ∷ fs)), eq-eqb f 0 e) (omega (arith, erasures_zeros fs))
  | no d ↦ simp (zeros_front (length fs) (seq (f ∷ fs)), ne_eqb f 0 d) (omega (arith, erasures_zeros fs))
]

pub unerased_length : (flags w : List ℕ) → length flags ≡ length w → length (unerased flags w) ≡ length w
unfolding unerased zip_with
unerased_length [] [] e = refl
unerased_length [] (x ∷ w) e = absurd (omega arith)
unerased_length (f ∷ fs) [] e = refl
unerased_length (f ∷ fs) (x ∷ w) e = ap suc (unerased_length fs w (omega arith))

-- an erased place is 0, and any other as it is
pub unerased_at : (flags w : List ℕ) (i : ℕ) → length flags ≡ length w → seq (unerased flags w) i ≡ cond (eqb (seq flags i) 0) (seq w i) 0
unfolding unerased zip_with
unerased_at [] [] i e = refl
unerased_at [] (x ∷ w) i e = absurd (omega arith)
unerased_at (f ∷ fs) [] i e = absurd (omega arith)
unerased_at (f ∷ fs) (x ∷ w) zero e = refl
unerased_at (f ∷ fs) (x ∷ w) (suc i) e = unerased_at fs w i (omega arith)

-- two blocks differ in no more places than the erased ones and those unerased ones in which they do
pub erased_distance : (flags u v : List ℕ) → length flags ≡ length u → length u ≡ length v → distance u v ≤ unerased_distance flags u v + erasures flags
unfolding distance unerased_distance unerased erasures zip_with
erased_distance flags [] v e h = zero-le
erased_distance flags (x ∷ u) [] e h = zero-le
erased_distance [] (x ∷ u) (y ∷ v) e h = absurd (omega arith)
erased_distance (f ∷ fs) (x ∷ u) (y ∷ v) e h =
    let t = erased_distance fs u v (omega arith) (omega arith) in
    elim (ℕ_discrete f 0) [
      | yes z ↦ elim (ℕ_discrete x y) [
        | yes q ↦ simp (eq-eqb f 0 z, eq-eqb x y q) (omega (arith, t))
        | no d ↦ simp (eq-eqb f 0 z, ne_eqb x y d) (omega (arith, t))
      ]
      | no z ↦ elim (ℕ_discrete x y) [
        | yes q ↦ simp (ne_eqb f 0 z, eq-eqb x y q) (omega (arith, t))
        | no d ↦ simp (ne_eqb f 0 z, ne_eqb x y d) (omega (arith, t))
      ]
    ]

-- f is zero at the degree of each place that is erased or in which two blocks differ, and these agree where it is erased
pub erased_zeros : (f : ℕ → ℕ) (flags u v : List ℕ) → length flags ≡ length u → length u ≡ length v
    → ((k : ℕ) → k < length u → seq flags k ≢ 0 → (f (degree (length u) k) ≡ 0) × (seq u k ≡ seq v k))
    → ((k : ℕ) → k < length u → seq u k ≢ seq v k → f (degree (length u) k) ≡ 0) → distance u v + erasures flags ≤ zeros_of (length u) f
unfolding distance zeros_of degree erasures
erased_zeros f [] [] v a b z w = zero-le
erased_zeros f [] (x ∷ u) v a b z w = absurd (omega arith)
erased_zeros f (g ∷ fs) [] v a b z w = absurd (omega arith)
erased_zeros f (g ∷ fs) (x ∷ u) [] a b z w = absurd (omega arith)
erased_zeros f (g ∷ fs) (x ∷ u) (y ∷ v) a b z w =
    let head : length u ≡ suc (length u) - 1 = omega arith in
    let tail : (k : ℕ) → length u - suc k ≡ suc (length u) - suc (suc k) = λ k. omega arith in
    let t = erased_zeros f fs u v (omega arith) (omega arith)
    (λ k h d. (ap f (tail k) ∙ (z (suc k) (omega arith) d).0, (z (suc k) (omega arith) d).1))
    (λ k h d. ap f (tail k) ∙ w (suc k) (omega arith) d) in
    elim (ℕ_discrete g 0) [
      | no d ↦
          let q = z 0 (omega arith) d in simp (ne_eqb g 0 d, eq-eqb x y q.1, eq-eqb (f (length u)) 0 (ap f head ∙ q.0)) (omega (arith, t))
      | yes e ↦ elim (ℕ_discrete x y) [
        | yes q ↦ simp (eq-eqb g 0 e, eq-eqb x y q) (omega (arith, t))
        | no d ↦ simp (eq-eqb g 0 e, ne_eqb x y d, eq-eqb (f (length u)) 0 (ap f head ∙ w 0 (omega arith) d)) (omega (arith, t))
      ]
    ]

-- ---- a codeword in reach of a block with erased places, taken apart

pub record NearErased (poly first parity : ℕ) (flags block w : List ℕ) : Type 0 where
  pub size : length w ≡ length block
  pub bytes : Bytes w
  pub code : T (is_codeword poly first parity w)
  pub few : erasures flags ≤ parity
  pub near : (block ≡ w) ⊎ (2 * unerased_distance flags block w + erasures flags + 2 ≤ parity)

of_either : (a b : Bool) → T (a || b) → T a ⊎ T b
of_either true b t = inl tt
of_either false b t = inr t

either : (a b : Bool) → T a ⊎ T b → T (a || b)
either true b t = tt
either false b (inl t) = absurd t
either false b (inr t) = t

module _ (poly first parity : ℕ) (flags block : List ℕ) where
  abbrev cost : List ℕ → ℕ
  cost w = 2 * unerased_distance flags block w + erasures flags + 2

  abbrev itself : List ℕ → Bool
  itself w = eqb (distance block w) 0

  reach_erased : (w : List ℕ) → T (in_reach_erased poly first parity flags block w) → NearErased poly first parity flags block w
  unfolding in_reach_erased
  reach_erased w t =
      let a = T_and (leb (erasures flags) parity) (is_word (length block) w && (is_codeword poly first parity w && (itself w || leb (cost w) parity))) t in
      let b = T_and (is_word (length block) w) (is_codeword poly first parity w && (itself w || leb (cost w) parity)) a.1 in
      let c = T_and (is_codeword poly first parity w) (itself w || leb (cost w) parity) b.1 in
      let q = word_is (length block) w b.0 in
      record {
        size = q.0;
        bytes = q.1;
        code = c.0;
        few = leb→le (erasures flags) parity a.0;
        near = elim (of_either (itself w) (leb (cost w) parity) c.1) [
          | inl e ↦ inl (distance_none block w (sym q.0) (eqb→eq (distance block w) 0 e))
          | inr e ↦ inr (leb→le (cost w) parity e)
        ];
      }

  erased_reach : (w : List ℕ) → NearErased poly first parity flags block w → T (in_reach_erased poly first parity flags block w)
  unfolding in_reach_erased
  erased_reach w N =
      both (leb (erasures flags) parity) (is_word (length block) w && (is_codeword poly first parity w && (itself w || leb (cost w) parity)))
      (le→leb (erasures flags) parity N.few)
      (both (is_word (length block) w) (is_codeword poly first parity w && (itself w || leb (cost w) parity)) (is_word_lem (length block) w N.size N.bytes)
      (both (is_codeword poly first parity w) (itself w || leb (cost w) parity) N.code
      (either (itself w) (leb (cost w) parity) (elim N.near [
        | inl e ↦ inl (subst (λ (n : ℕ). T (eqb n 0)) (sym (ap (distance block) (sym e) ∙ distance_self block)) tt)
        | inr h ↦ inr (le→leb (cost w) parity h)
      ]))))

  module _ (P : Primitive poly) (short : length block ≤ 255) (size : length flags ≡ length block) where
    -- two that differ in no more places than there is parity
    close : (u v : List ℕ) → NearErased poly first parity flags block u → NearErased poly first parity flags block v
        → unerased_distance flags u v + erasures flags ≤ parity → u ≡ v
    close u v N M h =
        near_equal poly P first parity u v (omega (arith, N.size)) (N.size ∙ sym M.size) N.bytes M.bytes N.code M.code
        (omega (arith, erased_distance flags u v (size ∙ sym N.size) (N.size ∙ sym M.size)))

    -- the block itself is one of them
    itself_one : (u v : List ℕ) → NearErased poly first parity flags block u → NearErased poly first parity flags block v → block ≡ u → u ≡ v
    itself_one u v N M e = elim M.near [
      | inl h ↦ sym e ∙ h
      | inr h ↦ close u v N M (omega (arith, ap (λ (x : List ℕ). unerased_distance flags x v) e))
    ]

    pub erased_one : (u v : List ℕ) → NearErased poly first parity flags block u → NearErased poly first parity flags block v → u ≡ v
    unfolding unerased_distance
    erased_one u v N M = elim N.near [
      | inl e ↦ itself_one u v N M e
      | inr e ↦ elim M.near [
        | inl h ↦ sym (itself_one v u M N h)
        | inr h ↦
            let k = unerased_length flags in
            close u v N M (omega (
              arith,
              triangle (unerased flags block) (unerased flags u) (unerased flags v) (k block size ∙ sym N.size ∙ sym (k u (size ∙ sym N.size)))
                  (k block size ∙ sym M.size ∙ sym (k v (size ∙ sym M.size))),
            ))
      ]
    ]

  -- ---- what the rule of a block admits

  abbrev rule : List ℕ → Bool
  rule = admits poly first parity flags block

  pub none_erased : erasures flags ≡ 0 → (w : List ℕ) → rule w ≡ in_reach poly first parity block w
  unfolding admits
  none_erased e w = simp (eq-eqb (erasures flags) 0 e)

  pub some_erased : erasures flags ≢ 0 → (w : List ℕ) → rule w ≡ in_reach_erased poly first parity flags block w
  unfolding admits
  some_erased d w = simp (ne_eqb (erasures flags) 0 d)

  -- with no place erased it is the codeword in reach
  pub none_admitted : erasures flags ≡ 0 → admitted poly first parity flags block ≡ nearest poly first parity block
  unfolding admitted nearest
  none_admitted e = ap (λ (t : List ℕ → Bool). first_that t (all_words (length block))) (fun_ext (none_erased e))

  admits_near : erasures flags ≢ 0 → (w : List ℕ) → T (rule w) → NearErased poly first parity flags block w
  admits_near d w t = reach_erased w (subst T (some_erased d w) t)

  pub near_admits : erasures flags ≢ 0 → (w : List ℕ) → NearErased poly first parity flags block w → T (rule w)
  near_admits d w N = subst T (sym (some_erased d w)) (erased_reach w N)

  pub erased_none : erasures flags ≢ 0 → ((w : List ℕ) → NearErased poly first parity flags block w → ⊥) → admitted poly first parity flags block ≡ none
  unfolding admitted
  erased_none d h = passing_none rule (length block) (λ w p. h w (admits_near d w p.test))

  -- one at most, with places erased or without
  pub admits_one : Primitive poly → length block ≤ 255 → length flags ≡ length block → (u v : List ℕ) → T (rule u) → T (rule v) → u ≡ v
  admits_one P short size u v a b = elim (ℕ_discrete (erasures flags) 0) [
    | yes e ↦ near_one poly first parity block P short u v (reach_near poly first parity block u (subst T (none_erased e u) a))
        (reach_near poly first parity block v (subst T (none_erased e v) b))
    | no d ↦ erased_one P short size u v (admits_near d u a) (admits_near d v b)
  ]

  pub admits_word : (w : List ℕ) → T (rule w) → (length w ≡ length block) × Bytes w
  admits_word w a = elim (ℕ_discrete (erasures flags) 0) [
    | yes e ↦ (let N = reach_near poly first parity block w (subst T (none_erased e w) a) in (N.size, N.bytes))
    | no d ↦ (let N = admits_near d w a in (N.size, N.bytes))
  ]

  pub found_admits : (w : List ℕ) → admitted poly first parity flags block ≡ some w → T (rule w)
  unfolding admitted
  found_admits w e = (found_passing rule (length block) w e).test

  pub admits_found : Primitive poly → length block ≤ 255 → length flags ≡ length block → (w : List ℕ) → T (rule w)
      → admitted poly first parity flags block ≡ some w
  unfolding admitted
  admits_found P short size w t =
      let q = admits_word w t in
      passing_some rule (length block) w (record { test = t; size = q.0; bytes = q.1 }) (λ v p. admits_one P short size v w p.test t)

  -- no more places are erased than there is parity
  pub admits_few : (w : List ℕ) → T (rule w) → erasures flags ≤ parity
  admits_few w a = elim (ℕ_discrete (erasures flags) 0) [ yes e ↦ omega arith | no d ↦ (admits_near d w a).few ]

  -- a codeword for which the block meets its condition
  pub meets_admits : (w : List ℕ) → length w ≡ length block → Bytes w → T (is_codeword poly first parity w) → Meets parity flags block w → T (rule w)
  meets_admits w size bytes code M = elim (ℕ_discrete (erasures flags) 0) [
    | yes e ↦ subst T (sym (none_erased e w)) (near_reach poly first parity block w (record { size = size; bytes = bytes; code = code; near = omega (arith, M.none e) }))
    | no d ↦
        let h : 0 < erasures flags = omega arith in
        near_admits d w (record {
          size = size;
          bytes = bytes;
          code = code;
          few = M.few h;
          near = elim (M.some h) [ inl z ↦ inl (distance_none block w (sym size) z) | inr z ↦ inr z ];
        })
  ]
