-- The codeword in reach of a block, and the parity of data: what each search finds. Assumes nothing.
use Rattle.general.proofs.Names.{◌≡◌, sym, subst, ◌∙◌, Bool, ◌&&◌, none, some, List, ℕ, ◌+◌, ◌/◌, ◌≤◌, arith, dec_lt, T, leb, ltb, eqb, leb→le, le→leb}
use Rattle.general.proofs.Names.{ltb→lt, lt→ltb, eqb→eq, eqb_refl, length, get_or, get_or-eq_default}
use Rattle.field.specs.Field.{below}
use Rattle.field.proofs.Field.{Primitive, T_and, below_at}
use Rattle.reed_solomon.specs.Block.{is_word, is_codeword, distance, in_reach, nearest}
use Rattle.reed_solomon.proofs.Search.{Bytes, Passing, found_passing, passing_none, passing_some}
use Rattle.reed_solomon.proofs.Distance.{triangle}
use Rattle.reed_solomon.proofs.Codeword.{both, below_all, near_equal}

-- ---- a word of n bytes

byte_at_lem : (n : ℕ) (w : List ℕ) → length w ≡ n → T (below n (λ i. ltb (get_or w i 0) 256)) → Bytes w
byte_at_lem n w e t i = elim (dec_lt i n) [
  | yes l ↦ ltb→lt (get_or w i 0) 256 (below_at n (λ (i : ℕ). ltb (get_or w i 0) 256) t i l)
  | no h ↦ omega (arith, get_or-eq_default w 0 {n = i} (omega arith))
]

pub word_is : (n : ℕ) (w : List ℕ) → T (is_word n w) → (length w ≡ n) × Bytes w
unfolding is_word
word_is n w t =
    let u = T_and (eqb (length w) n) (below n (λ i. ltb (get_or w i 0) 256)) t in
    let e = eqb→eq (length w) n u.0 in
    (e, byte_at_lem n w e u.1)

pub is_word_lem : (n : ℕ) (w : List ℕ) → length w ≡ n → Bytes w → T (is_word n w)
unfolding is_word
is_word_lem n w e b =
    both (eqb (length w) n) (below n (λ i. ltb (get_or w i 0) 256)) (subst (λ (m : ℕ). T (eqb (length w) m)) e (eqb_refl (length w)))
    (below_all n (λ (i : ℕ). ltb (get_or w i 0) 256) (λ i l. lt→ltb (get_or w i 0) 256 (b i)))

-- ---- a codeword in reach of the block, taken apart

pub record Near (poly first parity : ℕ) (block w : List ℕ) : Type 0 where
  pub size : length w ≡ length block
  pub bytes : Bytes w
  pub code : T (is_codeword poly first parity w)
  pub near : distance block w + distance block w ≤ parity

module _ (poly first parity : ℕ) (block : List ℕ) where
  abbrev test : List ℕ → Bool
  test = in_reach poly first parity block

  pub reach_near : (w : List ℕ) → T (in_reach poly first parity block w) → Near poly first parity block w
  unfolding in_reach
  reach_near w p =
      let t = T_and (is_word (length block) w) (is_codeword poly first parity w && leb (distance block w) (parity / 2)) p in
      let u = T_and (is_codeword poly first parity w) (leb (distance block w) (parity / 2)) t.1 in
      let q = word_is (length block) w t.0 in
      record { size = q.0; bytes = q.1; code = u.0; near = omega (arith, leb→le (distance block w) (parity / 2) u.1) }

  pub near_reach : (w : List ℕ) → Near poly first parity block w → T (in_reach poly first parity block w)
  unfolding in_reach
  near_reach w p =
      both (is_word (length block) w) (is_codeword poly first parity w && leb (distance block w) (parity / 2)) (is_word_lem (length block) w p.size p.bytes)
      (both (is_codeword poly first parity w) (leb (distance block w) (parity / 2)) p.code (le→leb (distance block w) (parity / 2) (omega (arith, p.near))))

  near_passing : (w : List ℕ) → Near poly first parity block w → Passing test (length block) w
  near_passing w p = record { test = near_reach w p; size = p.size; bytes = p.bytes }

  pub some_near : (w : List ℕ) → nearest poly first parity block ≡ some w → Near poly first parity block w
  unfolding nearest
  some_near w e = reach_near w (found_passing test (length block) w e).test

  pub near_none : ((w : List ℕ) → Near poly first parity block w → ⊥) → nearest poly first parity block ≡ none
  unfolding nearest
  near_none h = passing_none test (length block) (λ w p. h w (reach_near w p.test))

  module _ (P : Primitive poly) (short : length block ≤ 255) where
    pub near_one : (u v : List ℕ) → Near poly first parity block u → Near poly first parity block v → u ≡ v
    near_one u v N M =
        let t = triangle block u v (sym N.size) (sym M.size) in
        near_equal poly P first parity u v (omega (arith, N.size)) (N.size ∙ sym M.size) N.bytes M.bytes N.code M.code
        (omega (arith, t, N.near, M.near))

    pub near_some : (w : List ℕ) → Near poly first parity block w → nearest poly first parity block ≡ some w
    unfolding nearest
    near_some w N = passing_some test (length block) w (near_passing w N) (λ v p. near_one v w (reach_near v p.test) N)
