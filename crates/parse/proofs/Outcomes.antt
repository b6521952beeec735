-- What each answer of `from_data` comes to.
use Rattle.general.proofs.Names.{◌≡◌, refl, sym, ◌∙◌, true, false, List, ◌++◌, ℕ, ◌+◌, ◌≤◌, ◌<◌, zero-add, arith, eq-eqb, ne_eqb, lt-ltb, le-ltb, ltb, eqb}
use Rattle.general.proofs.Names.{length, take, drop, sets, sets-eq, take-append_seam}
use Rattle.general.proofs.Choices.{never}
use Rattle.segments.specs.declared.Answer.TheVariants.{Read, TooLong, Broken, Empty, PayloadFull, ScriptFull}
use Rattle.segments.specs.declared.Count.{Count}
use Rattle.segments.specs.declared.Count.TheVariants.{Done}
use Rattle.segments.specs.Script.{Segment, payload_of, script_of}
use Rattle.segments.specs.Segments.{Fault, Ending, end_mark, few_bits, broken, segments_of}
use Rattle.segments.specs.Positions.{counted, Reached, ParsesTo, Parses}
use Rattle.segments.specs.FromData.{DataOutcome, is_broken, from_data, data_outcome}
use Rattle.segments.proofs.Steps.{not_done}

same : {n n' m m' : ℕ} {u u' v v' : List ℕ} → n ≡ n' → m ≡ m' → u ≡ u' → v ≡ v'
    → ◌≡◌ {A = DataOutcome} (record { number = 0; payload_length = n; script_length = m; payload = u; script = v })
    (record { number = 0; payload_length = n'; script_length = m'; payload = u'; script = v' })
same p q r t = λ i. record { number = 0; payload_length = p i; script_length = q i; payload = r i; script = t i }

-- the front of a buffer in which bytes were stored, before the rest of another
front : (bs l x p : List ℕ) (n : ℕ) → n ≡ length bs → x ≡ sets l 0 bs → length bs ≤ length l
    → take n x ++ drop n p ≡ bs ++ drop (length bs) p
front bs l x p n e f w = rw (e, f, sets-eq bs l 0 (rw zero-add w), take-append_seam bs (drop (0 + length bs) l))

module _ (s p c : List ℕ) where
  pub too_long : 3886 < length s → data_outcome TooLong p c ≡ from_data s p c
  too_long h = rw (lt-ltb 3886 (length s) h)

  module _ (h : length s ≤ 3886) (o q : List ℕ) (r : Count) (x y : List ℕ) (d : Parses 0 0 o q (segments_of s) r x y) where
    abbrev gs : List Segment
    gs = (segments_of s).segments

    -- a pass that stops short has met a broken end
    pub is_broken_lem : (bad : Fault) → r ≡ counted bad → data_outcome Broken p c ≡ from_data s p c
    is_broken_lem bad e = rw (le-ltb 3886 (length s) h, go (segments_of s).end d)
      where
        go : (z : Ending) → ParsesTo 0 0 o q gs z r x y → is_broken z ≡ true
        go end_mark g = not_done bad (sym e ∙ g.0)
        go few_bits g = not_done bad (sym e ∙ g.0)
        go (broken b) g = refl

    module _ (n m : ℕ) (e : r ≡ Done n m) where
      -- a pass that does not has read all segments
      whole : is_broken (segments_of s).end ≡ false
      whole = go (segments_of s).end d
        where
          go : (z : Ending) → ParsesTo 0 0 o q gs z r x y → is_broken z ≡ false
          go end_mark g = refl
          go few_bits g = refl
          go (broken bad) g = not_done bad (sym g ∙ e)

      -- and so has every other pass
      reached : (p c : List ℕ) (t : Count) (u v : List ℕ) → Parses 0 0 p c (segments_of s) t u v → Reached 0 0 p c gs t u v
      reached p c t u v i = go (segments_of s).end whole i
        where
          go : (z : Ending) → is_broken z ≡ false → ParsesTo 0 0 p c gs z t u v → Reached 0 0 p c gs t u v
          go end_mark b g = g
          go few_bits b g = g
          go (broken bad) b g = never cc

      -- the lengths that the first pass tells
      lengths : (n ≡ length (payload_of gs)) × (m ≡ length (script_of gs))
      lengths =
          let f = (reached o q r x y d).0 in
          let n' : n ≡ 0 + length (payload_of gs) = cc in
          let m' : m ≡ 0 + length (script_of gs) = cc in
          (n' ∙ zero-add (length (payload_of gs)), m' ∙ zero-add (length (script_of gs)))

      pub is_empty : n ≡ 0 → data_outcome Empty p c ≡ from_data s p c
      is_empty z = rw (le-ltb 3886 (length s) h, whole, eq-eqb (length (payload_of gs)) 0 (sym lengths.0 ∙ z))

      module _ (z : n ≡ 0 → ⊥) where
        some : eqb (length (payload_of gs)) 0 ≡ false
        some = let k = lengths.0 in ne_eqb (length (payload_of gs)) 0 (λ g. z (k ∙ g))

        pub is_payload_full : length p < n → data_outcome PayloadFull p c ≡ from_data s p c
        is_payload_full l =
            let k = lengths.0 in
            rw (le-ltb 3886 (length s) h, whole, some, lt-ltb (length p) (length (payload_of gs)) (omega arith))

        module _ (l : n ≤ length p) where
          fits : ltb (length p) (length (payload_of gs)) ≡ false
          fits = let k = lengths.0 in le-ltb (length p) (length (payload_of gs)) (omega arith)

          pub is_script_full : length c < m → data_outcome ScriptFull p c ≡ from_data s p c
          is_script_full g =
              let j = lengths.1 in
              rw (le-ltb 3886 (length s) h, whole, some, fits, lt-ltb (length c) (length (script_of gs)) (omega arith))

          module _ (g : m ≤ length c) where
            -- both buffers begin with what the segments say
            filled : (u v : List ℕ) → u ≡ payload_of gs ++ drop (length (payload_of gs)) p → v ≡ script_of gs ++ drop (length (script_of gs)) c
                → data_outcome (Read n m) u v ≡ from_data s p c
            filled u v eu ev =
                let j = lengths.1 in
                rw (le-ltb 3886 (length s) h, whole, some, fits, le-ltb (length c) (length (script_of gs)) (omega arith))
                (same lengths.0 j eu ev)

            -- the second pass, over the buffers themselves
            pub is_read : (t : Count) (u v : List ℕ) → Parses 0 0 p c (segments_of s) t u v → data_outcome (Read n m) u v ≡ from_data s p c
            is_read t u v i =
                let k = lengths.0 in
                let j = lengths.1 in
                let f = reached p c t u v i in
                filled u v (f.1 ∙ sets-eq (payload_of gs) p 0 (omega arith) ∙ rw zero-add)
                (f.2 ∙ sets-eq (script_of gs) c 0 (omega arith) ∙ rw zero-add)

            -- copies of what the first pass stored
            pub is_copied : n ≤ length o → m ≤ length q → (u v : List ℕ) → u ≡ take n x ++ drop n p → v ≡ take m y ++ drop m c
                → data_outcome (Read n m) u v ≡ from_data s p c
            is_copied a b u v eu ev =
                let k = lengths.0 in
                let j = lengths.1 in
                let f = reached o q r x y d in
                filled u v (eu ∙ front (payload_of gs) o x p n k f.1 (omega arith)) (ev ∙ front (script_of gs) q y c m j f.2 (omega arith))
