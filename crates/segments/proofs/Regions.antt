-- What `same_region` leaves, case by case: the end of the segment, or a switch after which the other region goes on.
use Rattle.general.proofs.Names.{◌≡◌, subst, refl, Bool, not, List, ℕ, ◌+◌, ◌-◌, ◌*◌, ◌/◌, ◌%◌, ◌<◌, ◌≤◌, arith, ne_eqb, length}
use Rattle.segments.specs.declared.Region.{Region}
use Rattle.segments.specs.declared.Region.TheVariants.{End, Switch, Cut as RegionCut, Lacking as RegionLacking}
use Rattle.segments.specs.declared.Count.{Count}
use Rattle.segments.specs.declared.Count.TheVariants.{Done, Cut, Lacking}
use Rattle.segments.specs.Positions.{count_of, Left, Inside, RegionCases, RegionLeft, region_at}

coded : (i n : ℕ) → n < 65536 → count_of (i * 65536 + n + 2) ≡ Done i n
coded i n h =
    let e : i * 65536 + n + 2 - 2 ≡ i * 65536 + n = omega arith in
    let d : (i * 65536 + n) / 65536 ≡ i = omega arith in
    let m : (i * 65536 + n) % 65536 ≡ n = omega arith in
    rw (ne_eqb (i * 65536 + n + 2) 0 (λ z. omega arith), ne_eqb (i * 65536 + n + 2) 1 (λ z. omega arith), e, d, m)

module _ {s : List ℕ} {from to : ℕ} {o : List ℕ} {f : Bool} {r : Region} {x : List ℕ} (h : RegionLeft s from to o f r x) where
  cases_at : (q : Region) → r ≡ q → RegionCases s from to o f q x
  cases_at q e = subst (λ (z : Region). RegionCases s from to o f z x) e h.cases

  -- position and bytes of the end are not large
  pub ran_small : length s ≤ 4096 → {i n : ℕ} → r ≡ End i n → (i ≤ 32768) × (n ≤ 32768)
  ran_small l {i} {n} e = let g = cases_at (End i n) e in (omega arith, omega arith)

  pub ran_end : length s ≤ 4096 → {i n : ℕ} → r ≡ End i n
      → Left (region_at s from to o f) (count_of (i * 65536 + n + 2)) x × Inside s from to (count_of (i * 65536 + n + 2))
  ran_end l {i} {n} e = let g = cases_at (End i n) e in rw (coded i n (omega arith)) (rw g.0 (refl, refl), g.1)

  pub ran_cut : r ≡ RegionCut → Left (region_at s from to o f) Cut x × Unit {0}
  ran_cut e = (rw (cases_at RegionCut e) refl, tt)

  pub ran_lacks : r ≡ RegionLacking → Left (region_at s from to o f) Lacking x × Unit {0}
  ran_lacks e = (rw (cases_at RegionLacking e) refl, tt)

  pub ran_room : {i n : ℕ} → r ≡ Switch i n → (from + 12 ≤ i) × Inside s from to (Done i n)
  ran_room {i} {n} e = let g = cases_at (Switch i n) e in (g.1, g.2)

  pub ran_on : {i n : ℕ} → r ≡ Switch i n → (q : Count) (y : List ℕ) → Left (region_at s i n x (not f)) q y × Inside s i n q
      → Left (region_at s from to o f) q y × Inside s from to q
  ran_on {i} {n} e q y l = let g = cases_at (Switch i n) e in (rw g.0 l.0, go q l.1)
    where
      go : (z : Count) → Inside s i n z → Inside s from to z
      go (Done b k) j = let g = ran_room e in (omega arith, omega arith, omega arith, omega arith)
      go Cut j = tt
      go Lacking j = tt
