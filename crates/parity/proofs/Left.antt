-- What is left of data by division, zeros taken off its end, follows them. Assumes nothing.
use Rattle.general.proofs.Names.{◌≡◌, sym, ap, ap₂, ◌∙◌, if_pos, if_neg, List, [], ◌∷◌, ◌++◌, ℕ, suc, ◌+◌, ◌-◌, ◌*◌, ◌%◌, ◌≤◌, ◌<◌, arith, suc-mul}
use Rattle.general.proofs.Names.{dec_lt, length, take, drop, length-drop, take-append-drop, get_or-eq_default, ext_get_or, get_or-drop, get_or-take}
use Rattle.general.proofs.Names.{length-take-le, bit_xor, xor_zero_r, xor_zero_l}
use Rattle.field.specs.Field.{power, mul}
use Rattle.field.proofs.Field.{Primitive, primitive, mul_lt, mul_sum, mul_assoc, mul_power, mul_none, mul_comm, mul_one, power_pos, power_lt, sum_lt}
use Rattle.field.proofs.Instances.{primitive_163}
use Rattle.field.proofs.Entries.{mul_left_zero}
use Rattle.field.proofs.Xor.{xor_assoc}
use Rattle.reed_solomon.specs.Sum.{◌⊕◌, seq}
use Rattle.reed_solomon.specs.Block.{eval_from, eval}
use Rattle.general.specs.Each.{Each}
use Rattle.reed_solomon.proofs.Search.{Bytes}
use Rattle.reed_solomon.proofs.Codeword.{zero_codeword, eval_append}
use Rattle.remainder.specs.declared.Register.{Register}
use Rattle.remainder.specs.Words.{behind, byte_at, IsTabled, Leaves}
use Rattle.remainder.proofs.Lowered.{bytes_value, behind_from, power_first}
use Rattle.parity.specs.Encode.{written_of}
use Rattle.parity.specs.Inner.{behind_of}
use Rattle.parity.proofs.ParityBytes.{take_bytes, written_by}

eval_lt : (poly : ℕ) → Primitive poly → (x acc : ℕ) (ys : List ℕ) → acc < 256 → Bytes ys → eval_from poly x acc ys < 256
unfolding eval_from
eval_lt poly P x acc [] h b = h
eval_lt poly P x acc (y ∷ ys) h b = eval_lt poly P x (bit_xor (mul poly acc x) y) ys (sum_lt (mul poly acc x) y (mul_lt poly P acc x) (b 0)) (λ i. b (suc i))

-- from the place k on, and before it
pub behind_low : (k : ℕ) (src : List ℕ) (i x : ℕ) → i < k → behind_of k src i x ≡ x
unfolding behind_of
behind_low k src i x h = if_pos (dec_lt i k) h x (seq src (i - k))

pub behind_high : (k : ℕ) (src : List ℕ) (i x : ℕ) → k ≤ i → behind_of k src i x ≡ seq src (i - k)
unfolding behind_of
behind_high k src i x h = if_neg (dec_lt i k) (omega arith) x (seq src (i - k))

module _ (poly : ℕ) (P : Primitive poly) (m : ℕ) where
  abbrev x : ℕ
  x = power poly m

  -- a value in front of bytes
  eval_from_lem : (acc : ℕ) (ys : List ℕ) → acc < 256 → Bytes ys → eval_from poly (power poly m) acc ys ≡ mul poly acc (power poly (length ys * m)) ⊕ eval
      poly (power poly m) ys
  unfolding eval_from
  eval_from_lem acc [] h b =
      let o : 0 * m ≡ 0 = omega arith in
      let q : acc % 256 ≡ acc = omega arith in
      sym (xor_zero_r (mul poly acc (power poly (0 * m))) ∙ ap (λ (k : ℕ). mul poly acc (power poly k)) o ∙ ap (mul poly acc) (power_first poly) ∙ mul_one poly P acc ∙ q)
  eval_from_lem acc (y ∷ ys) h b =
      let w = power poly (length ys * m) in
      let ly : y < 256 = b 0 in
      let bs : Bytes ys = λ i. b (suc i) in
      let o : m + length ys * m ≡ suc (length ys) * m = omega (arith, suc-mul (length ys) m) in
      eval_from_lem (bit_xor (mul poly acc x) y) ys (sum_lt (mul poly acc x) y (mul_lt poly P acc x) ly) bs
      ∙ ap (λ (v : ℕ). v ⊕ eval poly x ys) (mul_sum poly P (mul poly acc x) y w
      ∙ ap (λ (v : ℕ). v ⊕ mul poly y w) (mul_assoc poly P acc x w ∙ ap (mul poly acc) (mul_power poly P m (length ys * m) ∙ ap (power poly) o)))
      ∙ xor_assoc (mul poly acc (power poly (suc (length ys) * m))) (mul poly y w) (eval poly x ys)
      ∙ ap (λ (v : ℕ). mul poly acc (power poly (suc (length ys) * m)) ⊕ v)
      (sym (eval_from_lem y ys ly bs) ∙ ap (λ (v : ℕ). eval_from poly x v ys) (sym (ap (λ (v : ℕ). bit_xor v y) (mul_left_zero poly x) ∙ xor_zero_l y)))

  -- zeros behind a value: it is zero itself
  cut_zeros : (acc : ℕ) (ys : List ℕ) → acc < 256 → ((i : ℕ) → seq ys i ≡ 0) → eval_from poly (power poly m) acc ys ≡ 0 → acc ≡ 0
  unfolding eval_from
  cut_zeros acc [] h z e = e
  cut_zeros acc (y ∷ ys) h z e =
      let k : bit_xor (mul poly acc x) y ≡ mul poly acc x = ap (bit_xor (mul poly acc x)) (z 0) ∙ xor_zero_r (mul poly acc x) in
      let q : mul poly acc x ≡ 0 = cut_zeros (mul poly acc x) ys (mul_lt poly P acc x) (λ i. z (suc i)) (ap (λ (v : ℕ). eval_from poly x v ys) (sym k) ∙ e) in
      let a : acc % 256 ≡ 0 = mul_none poly P x acc (mul_comm poly P x acc ∙ q) (λ o. omega (arith, power_pos poly P m, power_lt poly P m)) in
      omega arith

-- the register r that the division leaves of ds, its bytes b, and those of them that are kept
module _ (m parity : ℕ) (ds b : List ℕ) (r : Register) (bd : Bytes ds) (bb : Bytes b) (size : length b ≡ 32) (are : (i : ℕ) → i < 32 → seq b i ≡ byte_at r i)
    (zeros : (i : ℕ) → parity ≤ i → i < 32 → seq b i ≡ 0) where
  P : Primitive 0x163
  P = primitive 0x163 primitive_163

  past : (i : ℕ) → seq (drop parity b) i ≡ 0
  past i = get_or-drop parity b i 0 ∙ elim (dec_lt (parity + i) 32) [
    | yes h ↦ zeros (parity + i) (omega arith) h
    | no h ↦ get_or-eq_default b 0 {n = parity + i} (omega (arith, size))
  ]

  pub kept_zero : behind 0x163 (power 0x163 m) (eval 0x163 (power 0x163 m) ds) r ≡ 0 → eval 0x163 (power 0x163 m) (ds ++ take parity b) ≡ 0
  kept_zero z =
      let x = power 0x163 m in
      let e = eval 0x163 x ds in
      let le : e < 256 = eval_lt 0x163 P x 0 ds (omega arith) bd in
      let o : 32 * m ≡ length b * m = ap (λ (n : ℕ). n * m) (sym size) in
      let whole : eval_from 0x163 x e b ≡ 0 =
      eval_from_lem 0x163 P m e b le bb ∙ ap₂ (λ (k v : ℕ). mul 0x163 e (power 0x163 k) ⊕ v) (sym o) (bytes_value 0x163 x r b size are)
      ∙ sym (behind_from 0x163 P m e r le) ∙ z in
      let kept = eval_from 0x163 x e (take parity b) in
      eval_append 0x163 x 0 ds (take parity b)
      ∙ cut_zeros 0x163 P m kept (drop parity b) (eval_lt 0x163 P x e (take parity b) le (take_bytes parity b bb)) past
      (sym (eval_append 0x163 x e (take parity b) (drop parity b)) ∙ ap (eval_from 0x163 x e) (take-append-drop parity b) ∙ whole)

-- what is written
pub left_written : (k : ℕ) (block block' b : List ℕ) (r : Register) → Bytes block → length block ≤ 255 → k ≤ length block → IsTabled (length block - k)
    → Leaves (length block - k) k block r → length b ≡ 32 → ((i : ℕ) → i < 32 → seq b i ≡ byte_at r i) → ((i : ℕ) → length block - k ≤ i → i < 32 → seq b i ≡ 0)
    → Each (behind_of k b) (length block) block block' → block' ≡ written_of 0x163 1 (length block - k) block
left_written k block block' b r bs small h T L size are zeros E =
    written_by 0x163 (primitive 0x163 primitive_163) 1 k block block' bs small h stay
    (record {
      test = zero_codeword 0x163 1 p (take k block ++ drop k block') (λ j l.
          ap (λ (q : List ℕ). eval 0x163 (power 0x163 (1 + j)) (take k block ++ q)) kept
          ∙ kept_zero (1 + j) p (take k block) b r (take_bytes k block bs) bb size are zeros ((L.remains T).zero_at j l));
      size = length-drop k block' ∙ ap (λ (n : ℕ). n - k) E.size;
      bytes = λ i. rw kept (take_bytes p b bb i);
    })
  where
    p : ℕ
    p = length block - k

    bb : Bytes b
    bb i = elim (dec_lt i 32) [
      | yes l ↦ omega (arith, are i l)
      | no l ↦ omega (arith, get_or-eq_default b 0 {n = i} (omega (arith, size)))
    ]

    stay : take k block' ≡ take k block
    stay = ext_get_or 0 (take k block') (take k block) (length-take-le k block' (omega (arith, E.size)) ∙ sym (length-take-le k block h))
        (λ i l. let l : i < k = omega (arith, length-take-le k block' (omega (arith, E.size))) in
        get_or-take k block' i 0 l ∙ E.done i (omega arith) ∙ behind_low k b i (seq block i) l ∙ sym (get_or-take k block i 0 l))

    kept : drop k block' ≡ take (length block - k) b
    kept = ext_get_or 0 (drop k block') (take (length block - k) b)
        (length-drop k block' ∙ ap (λ (n : ℕ). n - k) E.size ∙ sym (length-take-le (length block - k) b (omega (arith, size, T.1))))
        (λ i l. let l : i < length block - k = omega (arith, length-drop k block', E.size) in
        get_or-drop k block' i 0 ∙ E.done (k + i) (omega arith) ∙ behind_high k b (k + i) (seq block (k + i)) (omega arith)
        ∙ (let q : k + i - k ≡ i = omega arith in ap (seq b) q) ∙ sym (get_or-take (length block - k) b i 0 l))
