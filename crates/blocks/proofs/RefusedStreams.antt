-- Which streams are refused, and what the blocks of the others become. Assumes nothing.
use Rattle.general.proofs.Names.{◌≡◌, refl, sym, ap, ap₂, ◌∙◌, ◌⊎◌, inl, inr, Bool, true, false, cond, Option, none, some, List, [], ◌∷◌, zip_with, ℕ, zero, suc}
use Rattle.general.proofs.Names.{◌+◌, ◌≤◌, ◌<◌, arith, dec_lt, ltb, lt-ltb, le-ltb, length, T}
use Rattle.field.proofs.Field.{primitive}
use Rattle.field.proofs.Instances.{primitive_163}
use Rattle.reed_solomon.specs.Block.{distance, unfit, is_codeword}
use Rattle.reed_solomon.specs.Erased.{erasures, admitted, Meets}
use Rattle.reed_solomon.proofs.Search.{Bytes}
use Rattle.reed_solomon.proofs.Erased.{found_admits, admits_few, admits_found, meets_admits}
use Rattle.reed_solomon.proofs.Fit.{fit}
use Rattle.corrector.specs.Correct.{BlockOutcome, refused_block, settled}
use Rattle.erasure_corrector.specs.Erased.{correct_erased_of}
use Rattle.erasure_corrector.proofs.Repairs.{many_refused, fit_settled}
use Rattle.block_table.specs.Blocks.{Shape, size}
use Rattle.block_table.specs.Inner.{Sound, more}
use Rattle.block_table.proofs.Cuts.{Shaped}
use Rattle.blocks.specs.Blockwise.{outcomes, first_refused, count_of, blocks_of, differences, block_at, parity_at}
use Rattle.blocks.proofs.Corrects.{first}

-- what the search finds for block j
abbrev pub found : List Shape → List (List ℕ) → List (List ℕ) → ℕ → Option (List ℕ)
found bs fs ws j = admitted 0x163 1 (parity_at bs j) (block_at fs j) (block_at ws j)

-- the refusal of a block for which it finds none
abbrev pub lost_number : ℕ → List ℕ → ℕ
lost_number parity f = cond (ltb parity (erasures f)) 15 6

-- j is the first such block
pub record FirstLost (bs : List Shape) (fs ws : List (List ℕ)) (j : ℕ) : Type 0 where
  pub inside : j < length bs
  pub lost : found bs fs ws j ≡ none
  pub before : (i : ℕ) → i < j → (w : List ℕ) × (found bs fs ws i ≡ some w)

-- each block has one, and these are vs
pub record EachFound (bs : List Shape) (fs ws vs : List (List ℕ)) : Type 0 where
  pub number : length vs ≡ length bs
  pub are : (j : ℕ) → j < length bs → found bs fs ws j ≡ some (block_at vs j)

-- a block that holds the rule of a row
module _ (b : Shape) (f w : List ℕ) (i : 0 < b.info) (p : 0 < b.parity) (s : size b ≤ 255) (l : length w ≡ size b) where
  fits : unfit b.parity w ≡ false
  fits = fit b.parity w (λ z. omega arith) (omega arith) (omega arith)

  block_lost : admitted 0x163 1 b.parity f w ≡ none → correct_erased_of 0x163 1 b.parity f w ≡ refused_block (lost_number b.parity f) w
  unfolding settled
  block_lost e = elim (dec_lt b.parity (erasures f)) [
    | yes h ↦ sym (many_refused 0x163 1 b.parity f w fits h) ∙ rw (lt-ltb b.parity (erasures f) h)
    | no h ↦ sym (fit_settled 0x163 1 b.parity f w fits (omega arith)) ∙ rw (e, le-ltb b.parity (erasures f) (omega arith))
  ]

  block_found : (v : List ℕ) → admitted 0x163 1 b.parity f w ≡ some v
      → correct_erased_of 0x163 1 b.parity f w ≡ record { number = 0; count = distance w v; block = v }
  unfolding settled
  block_found v e =
      sym (fit_settled 0x163 1 b.parity f w fits (admits_few 0x163 1 b.parity f w v (found_admits 0x163 1 b.parity f w v e))) ∙ rw e

lost_first : (t : Bool) (r : ℕ) → first (cond t 15 6) r ≡ cond t 15 6
lost_first true r = refl
lost_first false r = refl

pub lost_refused : (bs : List Shape) (fs ws : List (List ℕ)) → Sound bs → length fs ≡ length bs → Shaped bs ws → (j : ℕ) → FirstLost bs fs ws j
    → first_refused (outcomes bs fs ws) ≡ lost_number (parity_at bs j) (block_at fs j)
unfolding outcomes first_refused refused_block zip_with
lost_refused [] fs ws S n h j F = absurd (omega (arith, F.inside))
lost_refused (b ∷ bs) [] ws S n h j F = absurd (omega arith)
lost_refused (b ∷ bs) (f ∷ fs) [] S n h j F = absurd h
lost_refused (b ∷ bs) (f ∷ fs) (w ∷ ws) (more i p s S) n h zero F = rw (block_lost b f w i p s h.0 F.lost) (lost_first (ltb b.parity (erasures f)) _)
lost_refused (b ∷ bs) (f ∷ fs) (w ∷ ws) (more i p s S) n h (suc j) F =
    let z = F.before 0 (omega arith) in
    rw (block_found b f w i p s h.0 z.0 z.1)
    (lost_refused bs fs ws S (omega arith) h.1 j (record {
      inside = omega (arith, F.inside);
      lost = F.lost;
      before = λ i l. F.before (suc i) (omega arith);
    }))

pub each_settled : (bs : List Shape) (fs ws vs : List (List ℕ)) → Sound bs → length fs ≡ length bs → Shaped bs ws → EachFound bs fs ws vs
    → (first_refused (outcomes bs fs ws) ≡ 0) × (blocks_of (outcomes bs fs ws) ≡ vs) × (count_of (outcomes bs fs ws) ≡ differences ws vs)
unfolding outcomes first_refused blocks_of count_of differences zip_with
each_settled [] fs [] [] S n h E = (refl, refl, refl)
each_settled [] fs [] (v ∷ vs) S n h E = absurd (omega (arith, E.number))
each_settled [] fs (w ∷ ws) vs S n h E = absurd h
each_settled (b ∷ bs) fs [] vs S n h E = absurd h
each_settled (b ∷ bs) fs (w ∷ ws) [] S n h E = absurd (omega (arith, E.number))
each_settled (b ∷ bs) [] (w ∷ ws) (v ∷ vs) S n h E = absurd (omega arith)
each_settled (b ∷ bs) (f ∷ fs) (w ∷ ws) (v ∷ vs) (more i p s S) n h E =
    let ih = each_settled bs fs ws vs S (omega arith) h.1 (record { number = omega (arith, E.number); are = λ j l. E.are (suc j) (omega arith) }) in
    let o = block_found b f w i p s h.0 v (E.are 0 (omega arith)) in (
      ap₂ (λ (o : BlockOutcome) (r : ℕ). first o.number r) o ih.0,
      ap₂ (λ (o : BlockOutcome) (us : List (List ℕ)). o.block ∷ us) o ih.1,
      ap₂ (λ (o : BlockOutcome) (n : ℕ). o.count + n) o ih.2,
    )

-- one or the other
pub either : (bs : List Shape) (fs ws : List (List ℕ)) → length fs ≡ length bs → Shaped bs ws
    → ((j : ℕ) × FirstLost bs fs ws j) ⊎ ((vs : List (List ℕ)) × EachFound bs fs ws vs)
either [] fs [] n h = inr ([], record { number = refl; are = λ j l. absurd (omega arith) })
either [] fs (w ∷ ws) n h = absurd h
either (b ∷ bs) fs [] n h = absurd h
either (b ∷ bs) [] (w ∷ ws) n h = absurd (omega arith)
either (b ∷ bs) (f ∷ fs) (w ∷ ws) n h = go (admitted 0x163 1 b.parity f w) refl (either bs fs ws (omega arith) h.1)
  where
    each : (v : List ℕ) (vs : List (List ℕ)) → admitted 0x163 1 b.parity f w ≡ some v → EachFound bs fs ws vs
        → (j : ℕ) → j < suc (length bs) → found (b ∷ bs) (f ∷ fs) (w ∷ ws) j ≡ some (block_at (v ∷ vs) j)
    each v vs e E zero l = e
    each v vs e E (suc j) l = E.are j (omega arith)

    later : (v : List ℕ) (j : ℕ) → admitted 0x163 1 b.parity f w ≡ some v → FirstLost bs fs ws j
        → (i : ℕ) → i < suc j → (u : List ℕ) × (found (b ∷ bs) (f ∷ fs) (w ∷ ws) i ≡ some u)
    later v j e F zero l = (v, e)
    later v j e F (suc i) l = F.before i (omega arith)

    go : (o : Option (List ℕ)) → admitted 0x163 1 b.parity f w ≡ o → ((j : ℕ) × FirstLost bs fs ws j) ⊎ ((vs : List (List ℕ)) × EachFound bs fs ws vs)
        → ((j : ℕ) × FirstLost (b ∷ bs) (f ∷ fs) (w ∷ ws) j) ⊎ ((vs : List (List ℕ)) × EachFound (b ∷ bs) (f ∷ fs) (w ∷ ws) vs)
    go none e x = inl (0, record { inside = omega arith; lost = e; before = λ i l. absurd (omega arith) })
    go (some v) e (inl (j, F)) = inl (suc j, record { inside = omega (arith, F.inside); lost = F.lost; before = later v j e F })
    go (some v) e (inr (vs, E)) = inr (v ∷ vs, record { number = ap suc E.number; are = each v vs e E })

-- blocks that are codewords
abbrev pub Coded : List Shape → List (List ℕ) → Type 0
Coded [] [] = Unit {0}
Coded [] (v ∷ vs) = ⊥
Coded (b ∷ bs) [] = ⊥
Coded (b ∷ bs) (v ∷ vs) = ((length v ≡ size b) × Bytes v × T (is_codeword 0x163 1 b.parity v)) × Coded bs vs

coded_number : (bs : List Shape) (vs : List (List ℕ)) → Coded bs vs → length vs ≡ length bs
coded_number [] [] C = refl
coded_number [] (v ∷ vs) C = absurd C
coded_number (b ∷ bs) [] C = absurd C
coded_number (b ∷ bs) (v ∷ vs) C = ap suc (coded_number bs vs C.1)

pub coded_shaped : (bs : List Shape) (vs : List (List ℕ)) → Coded bs vs → Shaped bs vs
coded_shaped [] [] C = tt
coded_shaped [] (v ∷ vs) C = absurd C
coded_shaped (b ∷ bs) [] C = absurd C
coded_shaped (b ∷ bs) (v ∷ vs) C = (C.0.0, coded_shaped bs vs C.1)

-- blocks and their flags that meet their conditions for codewords have these
pub coded_each : (bs : List Shape) (fs ws vs : List (List ℕ)) → Sound bs → Shaped bs fs → Shaped bs ws → Coded bs vs
    → ((j : ℕ) → j < length bs → Meets (parity_at bs j) (block_at fs j) (block_at ws j) (block_at vs j)) → EachFound bs fs ws vs
coded_each bs fs ws vs S g h C near = record { number = coded_number bs vs C; are = go bs fs ws vs S g h C near }
  where
    go : (bs : List Shape) (fs ws vs : List (List ℕ)) → Sound bs → Shaped bs fs → Shaped bs ws → Coded bs vs
        → ((j : ℕ) → j < length bs → Meets (parity_at bs j) (block_at fs j) (block_at ws j) (block_at vs j)) → (j : ℕ) → j < length bs
        → found bs fs ws j ≡ some (block_at vs j)
    go [] fs ws vs S g h C near j l = absurd (omega arith)
    go (b ∷ bs) [] ws vs S g h C near j l = absurd g
    go (b ∷ bs) (f ∷ fs) [] vs S g h C near j l = absurd h
    go (b ∷ bs) (f ∷ fs) (w ∷ ws) [] S g h C near j l = absurd C
    go (b ∷ bs) (f ∷ fs) (w ∷ ws) (v ∷ vs) (more i p s S) g h C near zero l =
        admits_found 0x163 1 b.parity f w (primitive 0x163 primitive_163) (omega arith) (g.0 ∙ sym h.0) v
        (meets_admits 0x163 1 b.parity f w v (C.0.0 ∙ sym h.0) C.0.1 C.0.2 (near 0 (omega arith)))
    go (b ∷ bs) (f ∷ fs) (w ∷ ws) (v ∷ vs) (more i p s S) g h C near (suc j) l =
        go bs fs ws vs S g.1 h.1 C.1 (λ k m. near (suc k) (omega arith)) j (omega arith)

-- block j has the length of its shape
pub shaped_at : (bs : List Shape) (ws vs : List (List ℕ)) → Sound bs → Shaped bs ws → Shaped bs vs → (j : ℕ) → j < length bs
    → (length (block_at ws j) ≤ 255) × (length (block_at vs j) ≡ length (block_at ws j))
shaped_at [] ws vs S h g j l = absurd (omega arith)
shaped_at (b ∷ bs) [] vs S h g j l = absurd h
shaped_at (b ∷ bs) (w ∷ ws) [] S h g j l = absurd g
shaped_at (b ∷ bs) (w ∷ ws) (v ∷ vs) (more i p s S) h g zero l = (omega (arith, h.0), g.0 ∙ sym h.0)
shaped_at (b ∷ bs) (w ∷ ws) (v ∷ vs) (more i p s S) h g (suc j) l = shaped_at bs ws vs S h.1 g.1 j (omega arith)

-- what becomes of block j where the search finds a codeword for it
pub at_found : (bs : List Shape) (fs ws : List (List ℕ)) → Sound bs → length fs ≡ length bs → Shaped bs ws → (j : ℕ) → j < length bs → (v : List ℕ)
    → found bs fs ws j ≡ some v
    → correct_erased_of 0x163 1 (parity_at bs j) (block_at fs j) (block_at ws j) ≡ record { number = 0; count = distance (block_at ws j) v; block = v }
at_found [] fs ws S n h j l v e = absurd (omega arith)
at_found (b ∷ bs) [] ws S n h j l v e = absurd (omega arith)
at_found (b ∷ bs) (f ∷ fs) [] S n h j l v e = absurd h
at_found (b ∷ bs) (f ∷ fs) (w ∷ ws) (more i p s S) n h zero l v e = block_found b f w i p s h.0 v e
at_found (b ∷ bs) (f ∷ fs) (w ∷ ws) (more i p s S) n h (suc j) l v e = at_found bs fs ws S (omega arith) h.1 j (omega arith) v e
