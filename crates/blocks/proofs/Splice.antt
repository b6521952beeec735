-- A part of a stream that is replaced, and a part behind it. Assumes nothing.
use Rattle.general.proofs.Names.{◌≡◌, sym, ap, ap₂, ◌∙◌, List, ◌++◌, append_assoc, ℕ, ◌+◌, ◌-◌, ◌≤◌, ◌<◌, arith, add-one, length, take, drop, get_or, set}
use Rattle.general.proofs.Names.{length-append, length-drop, take_at, drop_at, drop-drop, get_or-drop, length-take-le, paste, paste-suc}
use Rattle.blocks.specs.Inner.{spliced}

-- what a part that was lent comes back as
pub part_back : (a n e : ℕ) (s xs : List ℕ) → e ≡ a + n → take a s ++ (xs ++ drop (e - a) (drop a s)) ≡ spliced a n xs s
unfolding spliced
part_back a n e s xs h =
    let m : a + (e - a) ≡ a + n = omega arith in
    ap (λ (l : List ℕ). take a s ++ (xs ++ l)) (drop-drop (e - a) a s ∙ ap (λ (k : ℕ). drop k s) m)

module _ (a n : ℕ) (xs s : List ℕ) (size : length xs ≡ n) (room : a + n ≤ length s) where
  front_length : length (take a s ++ xs) ≡ a + n
  front_length = length-append (take a s) xs ∙ ap₂ ◌+◌ (length-take-le a s (omega arith)) size

  pub opened : spliced a n xs s ≡ (take a s ++ xs) ++ drop (a + n) s
  unfolding spliced
  opened = sym (append_assoc (take a s) xs (drop (a + n) s))

  pub spliced_length : length (spliced a n xs s) ≡ length s
  spliced_length = ap length opened ∙ length-append (take a s ++ xs) (drop (a + n) s) ∙ omega (arith, front_length, length-drop (a + n) s)

  pub spliced_front : take (a + n) (spliced a n xs s) ≡ take a s ++ xs
  spliced_front = ap (take (a + n)) opened ∙ take_at (take a s ++ xs) (drop (a + n) s) (a + n) front_length

  pub spliced_behind : drop (a + n) (spliced a n xs s) ≡ drop (a + n) s
  spliced_behind = ap (drop (a + n)) opened ∙ drop_at (take a s ++ xs) (drop (a + n) s) (a + n) front_length

  -- two parts, one behind the other, are one
  pub spliced_more : (m : ℕ) (ys : List ℕ) → spliced (a + n) m ys (spliced a n xs s) ≡ spliced a (n + m) (xs ++ ys) s
  unfolding spliced
  spliced_more m ys =
      let r : a + n + m ≡ a + (n + m) = omega arith in
      let behind : drop (a + n + m) (spliced a n xs s) ≡ drop (a + (n + m)) s =
      sym (drop-drop m (a + n) (spliced a n xs s)) ∙ ap (drop m) spliced_behind ∙ drop-drop m (a + n) s ∙ ap (λ (k : ℕ). drop k s) r in
      ap₂ (λ (x z : List ℕ). x ++ (ys ++ z)) spliced_front behind
      ∙ append_assoc (take a s) xs (ys ++ drop (a + (n + m)) s)
      ∙ ap (λ (l : List ℕ). take a s ++ l) (sym (append_assoc xs ys (drop (a + (n + m)) s)))

pub part_kept : (a e : ℕ) (s ys : List ℕ) → a ≤ e → e ≤ length s → length ys ≡ length (take (e - a) (drop a s))
    → length (take a s ++ (ys ++ drop (e - a) (drop a s))) ≡ length s
part_kept a e s ys h l k =
    ap length (part_back a (e - a) e s ys (omega arith))
    ∙ spliced_length a (e - a) ys s (k ∙ length-take-le (e - a) (drop a s) (omega (arith, length-drop a s))) (omega arith)

-- a copy, byte by byte
pub copy_more : (d s t : List ℕ) (to from i : ℕ) → d ≡ paste t to (drop from s) i → to + i < length t → from + i < length s
    → set d (to + i) (get_or s (from + i) 0) ≡ paste t to (drop from s) (i + 1)
copy_more d s t to from i e h l =
    ap₂ (λ (r : List ℕ) (x : ℕ). set r (to + i) x) e (sym (get_or-drop from s i 0))
    ∙ paste-suc t to (drop from s) i 0 h (omega (arith, length-drop from s)) ∙ ap (paste t to (drop from s)) (sym (add-one i))

pub copy_end : (d s t : List ℕ) (to from i n : ℕ) → d ≡ paste t to (drop from s) i → i ≤ n → n ≤ i → d ≡ spliced to n (take n (drop from s)) t
unfolding spliced
copy_end d s t to from i n e lo hi =
    let z : i ≡ n = omega arith in
    e ∙ ap (paste t to (drop from s)) z ∙ append_assoc (take to t) (take n (drop from s)) (drop (to + n) t)
