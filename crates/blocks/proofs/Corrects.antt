-- Blocks corrected one after the other: what one block more, or one batch more, does, and what all come to. Assumes nothing.
use Rattle.general.proofs.Names.{◌≡◌, refl, sym, ap, ◌∙◌, ◌≢◌, Bool, true, false, cond, Option, none, some, List, [], ◌∷◌, ◌++◌, append_assoc}
use Rattle.general.proofs.Names.{flat_map, zip_with, ℕ, zero, suc, ◌+◌, ◌-◌, ◌≤◌, zero-le, add-zero, add_assoc, arith, eqb, ltb, eqb-suc-zero, length, take, drop, get_or-take, get_or-drop, dec_lt, ap₂, ◌<◌, get_or-eq_default}
use Rattle.general.proofs.Names.{length-take, length-drop, take-append-drop, drop-drop, length-take-le}
use Rattle.reed_solomon.specs.Block.{unfit}
use Rattle.reed_solomon.specs.Erased.{erasures, admitted}
use Rattle.reed_solomon.specs.Sum.{seq}
use Rattle.reed_solomon.proofs.Distance.{zeros_all}
use Rattle.reed_solomon.proofs.Erased.{erasures_zeros, admits_word, found_admits}
use Rattle.corrector.specs.Correct.{BlockOutcome, refused_block, settled, correct_of, outcome}
use Rattle.erasure_corrector.specs.Erased.{correct_erased_of}
use Rattle.erasure_corrector.proofs.Repairs.{none_erased}
use Rattle.corrector.specs.declared.Correction.{Correction}
use Rattle.corrector.specs.declared.Correction.TheVariants as Correction
use Rattle.parity.proofs.ParityBytes.{distance_le}
use Rattle.block_table.specs.Blocks.{Shape, size, total_size, batch, cut, joined}
use Rattle.block_table.proofs.Rows.{total_append, total_batch}
use Rattle.block_table.proofs.Cuts.{Shaped, cut_shaped, length_joined}
use Rattle.blocks.specs.declared.Blocks.{Blocks}
use Rattle.blocks.specs.declared.Blocks.TheVariants.{Corrected, Refused}
use Rattle.blocks.specs.Blockwise.{outcomes, first_refused, count_of, blocks_of, corrected, left_of, corrections_of, block_at}
use Rattle.blocks.specs.Inner.{spliced, StreamOutcome, answer_of, more, add_corrections, onward, outcome_at, left_at, outcome_from, Corrects}
use Rattle.blocks.proofs.Rule.{batch_next}
use Rattle.blocks.proofs.Splice.{part_back, opened, spliced_front, spliced_behind, spliced_length}

-- all numbers are small
abbrev Small : List BlockOutcome → Type 0
Small [] = Unit {0}
Small (o ∷ os) = (o.number ≤ 15) × Small os

-- ---- one block

-- it keeps its length, has no more corrections than codewords, is as it was if it is refused, and its number is small
pub block_facts : (p : ℕ) (f w : List ℕ)
    → let o = correct_erased_of 0x163 1 p f w in (length o.block ≡ length w) × (o.count ≤ length w) × (o.number ≢ 0 → o.block ≡ w) × (o.number ≤ 15)
unfolding correct_erased_of settled refused_block
block_facts p f w = go (unfit p w) (ltb p (erasures f)) (admitted 0x163 1 p f w) refl
  where
    go : (t u : Bool) (v : Option (List ℕ)) → admitted 0x163 1 p f w ≡ v
        → let o = cond t (refused_block 5 w) (cond u (refused_block 15 w) (settled w v)) in
        (length o.block ≡ length w) × (o.count ≤ length w) × (o.number ≢ 0 → o.block ≡ w) × (o.number ≤ 15)
    go true u v e = (refl, zero-le, λ d. refl, omega arith)
    go false true v e = (refl, zero-le, λ d. refl, omega arith)
    go false false none e = (refl, zero-le, λ d. refl, omega arith)
    go false false (some v) e = ((admits_word 0x163 1 p f w v (found_admits 0x163 1 p f w v e)).0, distance_le w v, λ d. absurd (d refl), zero-le)

-- ---- all blocks

pub cut_number : (bs : List Shape) (s : List ℕ) → length (cut bs s) ≡ length bs
unfolding cut
cut_number [] s = refl
cut_number (b ∷ bs) s = ap suc (cut_number bs (drop (size b) s))

pub blocks_shaped : (bs : List Shape) (fs ws : List (List ℕ)) → length fs ≡ length bs → Shaped bs ws → Shaped bs (blocks_of (outcomes bs fs ws))
unfolding outcomes blocks_of zip_with
blocks_shaped [] fs [] n h = tt
blocks_shaped [] fs (w ∷ ws) n h = absurd h
blocks_shaped (b ∷ bs) fs [] n h = absurd h
blocks_shaped (b ∷ bs) [] (w ∷ ws) n h = absurd (omega arith)
blocks_shaped (b ∷ bs) (f ∷ fs) (w ∷ ws) n h = ((block_facts b.parity f w).0 ∙ h.0, blocks_shaped bs fs ws (omega arith) h.1)

pub count_le : (bs : List Shape) (fl s : List ℕ) → count_of (corrected bs fl s) ≤ total_size bs
unfolding outcomes cut count_of total_size zip_with
count_le [] fl s = zero-le
count_le (b ∷ bs) fl s =
    omega (
      arith,
      (block_facts b.parity (take (size b) fl) (take (size b) s)).1,
      length-take (size b) s,
      count_le bs (drop (size b) fl) (drop (size b) s),
    )

-- the number of the first that is refused is small
pub refused_le : (os : List BlockOutcome) → Small os → first_refused os ≤ 15
unfolding first_refused
refused_le [] h = zero-le
refused_le (o ∷ os) h = go (eqb o.number 0) (refused_le os h.1)
  where
    go : (t : Bool) → first_refused os ≤ 15 → cond t (first_refused os) o.number ≤ 15
    go true r = r
    go false r = h.0

pub corrected_small : (bs : List Shape) (fl s : List ℕ) → Small (corrected bs fl s)
unfolding outcomes cut zip_with
corrected_small [] fl s = tt
corrected_small (b ∷ bs) fl s = ((block_facts b.parity (take (size b) fl) (take (size b) s)).3, corrected_small bs (drop (size b) fl) (drop (size b) s))

pub joined_size : (bs : List Shape) (fl t : List ℕ) → total_size bs ≤ length t → length (joined (blocks_of (corrected bs fl t))) ≡ total_size bs
joined_size bs fl t h = length_joined bs (blocks_of (corrected bs fl t)) (blocks_shaped bs (cut bs fl) (cut bs t) (cut_number bs fl) (cut_shaped bs t h))

-- a number, or, if it is 0, the refusal behind it
abbrev pub first : ℕ → ℕ → ℕ
first n r = cond (eqb n 0) r n

pub first_zero : (n r : ℕ) → first n r ≡ 0 → (n ≡ 0) × (r ≡ 0)
first_zero zero r e = (refl, e)
first_zero (suc n) r e = absurd (omega (arith, ap (λ (t : Bool). cond t r (suc n)) (eqb-suc-zero n)))

-- ---- the stream that is left

pub left_behind : (bs cs : List Shape) (fl s : List ℕ) → first_refused (corrected bs fl s) ≡ 0
    → left_of (bs ++ cs) fl s ≡ joined (blocks_of (corrected bs fl s)) ++ left_of cs (drop (total_size bs) fl) (drop (total_size bs) s)
unfolding left_of outcomes cut first_refused blocks_of joined total_size zip_with flat_map
left_behind [] cs fl s e = refl
left_behind (b ∷ bs) cs fl s e =
    let o = correct_erased_of 0x163 1 b.parity (take (size b) fl) (take (size b) s) in
    let g = drop (size b) fl in
    let t = drop (size b) s in
    let z = first_zero o.number (first_refused (corrected bs g t)) e in
    rw (z.0, left_behind bs cs g t z.1, drop-drop, drop-drop, append_assoc)

-- ---- one pass behind another

more_zero : (r : Blocks) → more 0 r ≡ r
more_zero (Corrected m) = let e : 0 + m ≡ m = omega arith in ap Corrected e
more_zero (Refused k) = refl

more_more : (n m : ℕ) (r : Blocks) → more n (more m r) ≡ more (n + m) r
more_more n m (Corrected k) = let e : n + (m + k) ≡ n + m + k = omega arith in ap Corrected e
more_more n m (Refused k) = refl

add_corrections_zero : (q : StreamOutcome) → add_corrections 0 q ≡ q
add_corrections_zero q = λ i. record { answer = more_zero q.answer i; stream = q.stream }

-- an answer that leaves a stream, and what is done with it then
abbrev follow : Blocks → List ℕ → (List ℕ → StreamOutcome) → StreamOutcome
follow (Corrected m) s f = add_corrections m (f s)
follow (Refused k) s f = record { answer = Refused k; stream = s }

onward_follow : (n c : ℕ) (s : List ℕ) (r : Blocks) (t : List ℕ) (f : List ℕ → StreamOutcome)
    → let q = onward n c s (record { answer = r; stream = t }) in onward n c s (follow r t f) ≡ follow q.answer q.stream f
onward_follow (suc n) c s r t f = refl
onward_follow zero c s (Refused k) t f = refl
onward_follow zero c s (Corrected m) t f = λ i. record { answer = more_more c m (f t).answer i; stream = (f t).stream }

outcome_append : (fl : List ℕ) (bs cs : List Shape) (a : ℕ) (s : List ℕ)
    → outcome_from fl (bs ++ cs) a s ≡ follow (outcome_from fl bs a s).answer (outcome_from fl bs a s).stream (outcome_from fl cs (a + total_size bs))
unfolding outcome_from total_size
outcome_append fl [] cs a s = rw add-zero (sym (add_corrections_zero (outcome_from fl cs a s)))
outcome_append fl (b ∷ bs) cs a s =
    let o = outcome_at fl b a s in
    let s₁ = left_at fl b a s in
    rw (outcome_append fl bs cs (a + size b) s₁, ← add_assoc a (size b) (total_size bs)) (onward_follow o.number o.count s₁ _ _ _)

-- ---- what a pass comes to

abbrev pub answer_from : ℕ → ℕ → Blocks
answer_from zero n = Corrected n
answer_from (suc k) n = Refused (suc k)

onward_answer : (n c k m : ℕ) (pre w u t : List ℕ)
    → onward n c ((pre ++ w) ++ t) (record { answer = answer_from k m; stream = (pre ++ w) ++ u })
    ≡ record { answer = answer_from (first n k) (c + m); stream = pre ++ (w ++ cond (eqb n 0) u t) }
onward_answer zero c zero m pre w u t = rw append_assoc
onward_answer zero c (suc k) m pre w u t = rw append_assoc
onward_answer (suc n) c k m pre w u t = rw (eqb-suc-zero n, append_assoc)

pub outcome_is : (fl : List ℕ) (bs : List Shape) (a : ℕ) (s : List ℕ) → a + total_size bs ≤ length s
    → outcome_from fl bs a s ≡ record {
      answer = answer_from (first_refused (corrected bs (drop a fl) (drop a s))) (count_of (corrected bs (drop a fl) (drop a s)));
      stream = take a s ++ left_of bs (drop a fl) (drop a s);
    }
unfolding outcome_from outcomes cut first_refused count_of left_of total_size zip_with
outcome_is fl [] a s h = ap (λ (l : List ℕ). record { answer = Corrected 0; stream = l }) (sym (take-append-drop a s))
outcome_is fl (b ∷ bs) a s h =
    let o = outcome_at fl b a s in
    let s₁ = left_at fl b a s in
    let t = drop (size b) (drop a s) in
    let g = drop (size b) (drop a fl) in
    let n : length o.block ≡ size b =
    (block_facts b.parity (take (size b) (drop a fl)) (take (size b) (drop a s))).0 ∙ length-take-le (size b) (drop a s) (omega (arith, length-drop a s)) in
    let room : a + size b ≤ length s = omega arith in
    let e : drop (a + size b) s₁ ≡ t = spliced_behind a (size b) o.block s n room ∙ sym (drop-drop (size b) a s) in
    let f : s₁ ≡ (take a s ++ o.block) ++ t = rw drop-drop (opened a (size b) o.block s n room) in
    rw (
      outcome_is fl bs (a + size b) s₁ (omega (arith, spliced_length a (size b) o.block s n room)),
      spliced_front a (size b) o.block s n room,
      e,
      f,
      ← drop-drop (size b) a fl,
    )
    (onward_answer o.number o.count (first_refused (corrected bs g t)) (count_of (corrected bs g t)) (take a s) o.block (left_of bs g t) t)

answer_from_le : (k n : ℕ) → corrections_of (answer_from k n) ≤ n
unfolding corrections_of
answer_from_le zero n = omega arith
answer_from_le (suc k) n = zero-le

-- no more corrections than codewords
pub corrects_le : {fl : List ℕ} {bs : List Shape} {a : ℕ} {s s' : List ℕ} {r : Blocks} → Corrects fl bs a s s' r → a + total_size bs ≤ length s
    → corrections_of r ≤ total_size bs
corrects_le {fl} {bs} {a} {s} C h =
    let e = ap (λ (q : StreamOutcome). corrections_of q.answer) (C.is ∙ outcome_is fl bs a s h) in
    let os = corrected bs (drop a fl) (drop a s) in
    omega (arith, e, answer_from_le (first_refused os) (count_of os), count_le bs (drop a fl) (drop a s))

-- ---- a loop over blocks

-- Where a pass over bs from a on stands: rest is left to do from a' on, after n corrections.
pub record BlocksLeft (fl : List ℕ) (bs : List Shape) (a : ℕ) (s : List ℕ) (rest : List Shape) (a' n : ℕ) (s' : List ℕ) : Type 0 where
  pub same : outcome_from fl bs a s ≡ add_corrections n (outcome_from fl rest a' s')
  pub size : length s' ≡ length s
  pub room : a' + total_size rest ≤ length s
  pub place : a' + total_size rest ≡ a + total_size bs
  pub few : n ≤ a'

pub blocks_left_start : (fl : List ℕ) (bs : List Shape) (a : ℕ) (s : List ℕ) → a + total_size bs ≤ length s → BlocksLeft fl bs a s bs a 0 s
blocks_left_start fl bs a s h = record { same = sym (add_corrections_zero (outcome_from fl bs a s)); size = refl; room = h; place = refl; few = zero-le }

module _ {fl : List ℕ} {bs : List Shape} {a : ℕ} {s : List ℕ} {rest : List Shape} {a' n : ℕ} {s' : List ℕ} (P : BlocksLeft fl bs a s rest a' n s')
    (cs ds : List Shape) (e : rest ≡ cs ++ ds) where
  pub blocks_left_room : (a' + total_size cs + total_size ds ≤ length s) × (a' + total_size cs + total_size ds ≡ a + total_size bs)
  blocks_left_room = let t = ap total_size e ∙ total_append cs ds in (omega (arith, P.room, t), omega (arith, P.place, t))

  whole : {s'' : List ℕ} {r : Blocks} → Corrects fl cs a' s' s'' r → outcome_from fl bs a s ≡ add_corrections n (follow r s'' (outcome_from fl ds (a' + total_size cs)))
  whole C = P.same ∙ rw (e, outcome_append fl cs ds a' s', ← C.is)

  pub blocks_left_next : {s'' : List ℕ} {r : Blocks} (m a'' : ℕ) → Corrects fl cs a' s' s'' r → r ≡ Corrected m → length s'' ≡ length s'
      → a'' ≡ a' + total_size cs → BlocksLeft fl bs a s ds a'' (n + m) s''
  unfolding corrections_of
  blocks_left_next {s''} {r} m a'' C f k l = record {
    same = (rw (f, ← l) at (whole C)) ∙ rw more_more;
    size = k ∙ P.size;
    room = omega (arith, blocks_left_room.0);
    place = omega (arith, blocks_left_room.1);
    few = omega (arith, ap corrections_of f, corrects_le C (omega (arith, blocks_left_room.0, P.size)));
  }

  pub blocks_left_stop : {s'' : List ℕ} {r : Blocks} (k : ℕ) → Corrects fl cs a' s' s'' r → r ≡ Refused k → Corrects fl bs a s s'' r
  blocks_left_stop {s''} k C f =
      record { is = rw f (sym (whole C ∙ ap (λ (x : Blocks). add_corrections n (follow x s'' (outcome_from fl ds (a' + total_size cs)))) f)) }

pub blocks_left_end : {fl : List ℕ} {bs : List Shape} {a : ℕ} {s : List ℕ} {rest : List Shape} {a' n : ℕ} {s' : List ℕ} → BlocksLeft fl bs a s rest a' n s'
    → rest ≡ [] → Corrects fl bs a s s' (Corrected n)
unfolding outcome_from
blocks_left_end {n = n} P e = record { is = sym ((rw e at P.same) ∙ rw add-zero) }

-- ---- one block of a batch after the other

module _ (left d p : ℕ) {fl : List ℕ} {bs : List Shape} {a : ℕ} {s : List ℕ} {a' n : ℕ} {s' : List ℕ} (P : BlocksLeft fl bs a s (batch left d p) a' n s')
    (h : 0 < left) where
  pub block_room : (a' + (d + p) ≤ length s') × (a' + (d + p) ≤ a + total_size bs)
  block_room =
      let room = blocks_left_room P (batch 1 d p) (batch (left - 1) d p) (batch_next left d p h) in
      let t = total_batch 1 d p in
      (omega (arith, P.size), omega arith)

  pub block_next : {s'' : List ℕ} {r : Blocks} (m : ℕ) → Corrects fl (batch 1 d p) a' s' s'' r → r ≡ Corrected m → length s'' ≡ length s'
      → BlocksLeft fl bs a s (batch (left - 1) d p) (a' + (d + p)) (n + m) s''
  block_next m C f k = blocks_left_next P (batch 1 d p) (batch (left - 1) d p) (batch_next left d p h) m (a' + (d + p)) C f k (omega (arith, total_batch 1 d p))

  pub block_stop : {s'' : List ℕ} {r : Blocks} (k : ℕ) → Corrects fl (batch 1 d p) a' s' s'' r → r ≡ Refused k → Corrects fl bs a s s'' r
  block_stop = blocks_left_stop P (batch 1 d p) (batch (left - 1) d p) (batch_next left d p h)

-- ---- one block, as the corrector leaves it

pub one_corrects : (fl : List ℕ) (d p a e : ℕ) (s xs : List ℕ) (c : Correction) (r : Blocks) → e ≡ a + (d + p) → r ≡ answer_of c
    → outcome c xs ≡ correct_erased_of 0x163 1 p (take (e - a) (drop a fl)) (take (e - a) (drop a s))
    → Corrects fl (batch 1 d p) a s (take a s ++ (xs ++ drop (e - a) (drop a s))) r
unfolding outcome_from batch answer_of outcome refused_block
one_corrects fl d p a e s xs c r h f g =
    let n : e - a ≡ d + p = omega arith in
    record { is = rw (f, part_back a (d + p) e s xs h) (go c ∙ ap after (rw n at g)) }
  where
    after : BlockOutcome → StreamOutcome
    after o = let s₁ = spliced a (d + p) o.block s in onward o.number o.count s₁ (record { answer = Corrected 0; stream = s₁ })

    go : (c : Correction) → record { answer = answer_of c; stream = spliced a (d + p) xs s } ≡ after (outcome c xs)
    go (Correction.Corrected n) = ap (λ (k : ℕ). record { answer = Corrected k; stream = spliced a (d + p) xs s }) (sym (add-zero n))
    go Correction.Unfit = refl
    go Correction.TooManyErased = refl
    go Correction.OutOfReach = refl

-- ---- no flag is set

-- then nothing is erased, and a block is corrected as one without flags
unset_erasures : (f : List ℕ) → ((i : ℕ) → seq f i ≡ 0) → erasures f ≡ 0
unset_erasures f z = omega (arith, erasures_zeros f, zeros_all (length f) (seq f) z)

part_unset : (n a : ℕ) (fl : List ℕ) → ((i : ℕ) → seq fl i ≡ 0) → (i : ℕ) → seq (take n (drop a fl)) i ≡ 0
part_unset n a fl z i = elim (dec_lt i n) [
  | yes h ↦ get_or-take n (drop a fl) i 0 h ∙ get_or-drop a fl i 0 ∙ z (a + i)
  | no h ↦ get_or-eq_default (take n (drop a fl)) 0 {n = i} (omega (arith, length-take n (drop a fl)))
]

unset_block : (p n a : ℕ) (fl w : List ℕ) → ((i : ℕ) → seq fl i ≡ 0) → correct_of 0x163 1 p w ≡ correct_erased_of 0x163 1 p (take n (drop a fl)) w
unset_block p n a fl w z = none_erased 0x163 1 p (take n (drop a fl)) w (unset_erasures (take n (drop a fl)) (part_unset n a fl z))

pub unset_part : (bs : List Shape) (fl : List ℕ) → ((i : ℕ) → seq fl i ≡ 0) → (j : ℕ) → erasures (block_at (cut bs fl) j) ≡ 0
unfolding cut erasures
unset_part [] fl z j = refl
unset_part (b ∷ bs) fl z zero = unset_erasures (take (size b) fl) (part_unset (size b) 0 fl z)
unset_part (b ∷ bs) fl z (suc j) = unset_part bs (drop (size b) fl) (λ i. get_or-drop (size b) fl i 0 ∙ z (size b + i)) j

pub unset : (bs : List Shape) (fl gl s : List ℕ) → ((i : ℕ) → seq fl i ≡ 0) → ((i : ℕ) → seq gl i ≡ 0) → corrected bs fl s ≡ corrected bs gl s
unfolding outcomes cut zip_with
unset [] fl gl s y z = refl
unset (b ∷ bs) fl gl s y z =
    let w = take (size b) s in
    ap₂ (λ (o : BlockOutcome) (os : List BlockOutcome). o ∷ os)
    (sym (unset_block b.parity (size b) 0 fl w y) ∙ unset_block b.parity (size b) 0 gl w z)
    (unset bs (drop (size b) fl) (drop (size b) gl) (drop (size b) s) (λ i. get_or-drop (size b) fl i 0 ∙ y (size b + i)) (λ i. get_or-drop (size b) gl i 0 ∙ z (size b + i)))

-- one block, where there are no flags
pub one_unflagged : (d p a e : ℕ) (s xs : List ℕ) (c : Correction) (r : Blocks) → e ≡ a + (d + p) → r ≡ answer_of c
    → outcome c xs ≡ correct_of 0x163 1 p (take (e - a) (drop a s)) → Corrects [] (batch 1 d p) a s (take a s ++ (xs ++ drop (e - a) (drop a s))) r
one_unflagged d p a e s xs c r h f g = one_corrects [] d p a e s xs c r h f (g ∙ unset_block p (e - a) a [] (take (e - a) (drop a s)) (λ i. refl))

pub without_flags : (fl : List ℕ) {bs : List Shape} {a : ℕ} {s s' : List ℕ} {r : Blocks} → length fl ≡ 0 → Corrects [] bs a s s' r → Corrects fl bs a s s' r
without_flags [] e C = C
without_flags (f ∷ fl) e C = absurd (omega arith)
