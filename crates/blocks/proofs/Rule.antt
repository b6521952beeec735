-- The batches of a row: the rule that each holds, and the blocks from one of them on. Assumes nothing.
use Rattle.general.proofs.Names.{◌≡◌, refl, sym, ap, ap₂, ◌∙◌, List, [], ◌∷◌, ◌++◌, append-nil, ℕ, zero, suc, ◌+◌, ◌-◌, ◌*◌, ◌≤◌, ◌<◌, arith, length, take}
use Rattle.general.proofs.Names.{drop, get_or, length-drop, take-append-drop, take-append-le, drop-append-le, length-take-le}
use Rattle.block_table.specs.Blocks.{Shape, size, batch, shapes, total_size, total_data, cut}
use Rattle.block_table.specs.Inner.{Sound, none, more}
use Rattle.blocks.specs.Blockwise.{outcomes, corrected}
use Rattle.blocks.specs.declared.Batch.{Batch}
use Rattle.blocks.specs.Inner.{batch_of, blocks_in, behind, sum}

-- ---- the rule

pub batch_fit : (c d p : ℕ) → Sound (batch c d p) → 0 < c → (0 < d) × (0 < p) × (d + p ≤ 255)
unfolding batch
batch_fit zero d p S h = absurd (omega arith)
batch_fit (suc c) d p (more i o s S) h = (i, o, s)

sound_parts : (bs cs : List Shape) → Sound (bs ++ cs) → Sound bs × Sound cs
sound_parts [] cs S = (none, S)
sound_parts (b ∷ bs) cs (more i p s S) = let q = sound_parts bs cs S in (more i p s q.0, q.1)

module _ (r : List ℕ) where
  pub row_batch : (k : ℕ) → Sound (shapes r) → k < 3 → (b : Batch) → b ≡ batch_of r k → Sound (blocks_in b)
  unfolding shapes
  row_batch k S h b e = rw e (go k h)
    where
      behind_first : Sound (blocks_in (batch_of r 1) ++ blocks_in (batch_of r 2))
      behind_first = (sound_parts (blocks_in (batch_of r 0)) _ S).1

      go : (k : ℕ) → k < 3 → Sound (blocks_in (batch_of r k))
      go zero h = (sound_parts (blocks_in (batch_of r 0)) _ S).0
      go (suc zero) h = (sound_parts (blocks_in (batch_of r 1)) _ behind_first).0
      go (suc (suc zero)) h = (sound_parts (blocks_in (batch_of r 1)) _ behind_first).1
      go (suc (suc (suc k))) h = absurd (omega arith)

  -- ---- blocks in order

  pub behind_next : (k : ℕ) → k < 3 → (b : Batch) → b ≡ batch_of r k → behind k r ≡ blocks_in b ++ behind (k + 1) r
  unfolding behind shapes
  behind_next k h b e = rw e (go k h)
    where
      go : (k : ℕ) → k < 3 → behind k r ≡ blocks_in (batch_of r k) ++ behind (k + 1) r
      go zero h = refl
      go (suc zero) h = refl
      go (suc (suc zero)) h = sym (append-nil (blocks_in (batch_of r 2)))
      go (suc (suc (suc k))) h = absurd (omega arith)

  pub behind_all : (k : ℕ) → 3 ≤ k → behind k r ≡ []
  unfolding behind
  behind_all zero h = absurd (omega arith)
  behind_all (suc zero) h = absurd (omega arith)
  behind_all (suc (suc zero)) h = absurd (omega arith)
  behind_all (suc (suc (suc k))) h = refl

pub batch_next : (n d p : ℕ) → 0 < n → batch n d p ≡ batch 1 d p ++ batch (n - 1) d p
unfolding batch
batch_next zero d p h = absurd (omega arith)
batch_next (suc n) d p h = let e : n ≡ suc n - 1 = omega arith in ap (λ (k : ℕ). batch 1 d p ++ batch k d p) e

pub batch_none : (n d p : ℕ) → n ≤ 0 → batch n d p ≡ []
unfolding batch
batch_none zero d p h = refl
batch_none (suc n) d p h = absurd (omega arith)

-- the only block of a batch
pub only_is : (b : Batch) → b.count ≡ 1 → blocks_in b ≡ batch 1 b.info b.parity
only_is b e = ap (λ (n : ℕ). batch n b.info b.parity) e

-- ---- sums over blocks

pub sum_append : (f : Shape → ℕ) (bs cs : List Shape) → sum f (bs ++ cs) ≡ sum f bs + sum f cs
unfolding sum
sum_append f [] cs = omega arith
sum_append f (b ∷ bs) cs = let e = sum_append f bs cs in omega arith

pub sum_batch : (f : Shape → ℕ) (n d p : ℕ) → sum f (batch n d p) ≡ n * f (record { info = d; parity = p })
unfolding sum batch
sum_batch f zero d p = omega arith
sum_batch f (suc n) d p = let e = sum_batch f n d p in omega arith

pub sum_size : (bs : List Shape) → sum (λ b. size b) bs ≡ total_size bs
unfolding sum total_size
sum_size bs = refl

pub sum_info : (bs : List Shape) → sum (λ b. b.info) bs ≡ total_data bs
unfolding sum total_data
sum_info bs = refl

pub data_shapes : (r : List ℕ) (a b c : Batch) → a ≡ batch_of r 0 → b ≡ batch_of r 1 → c ≡ batch_of r 2
    → a.count * a.info + (b.count * b.info + c.count * c.info) ≡ total_data (shapes r)
unfolding shapes
data_shapes r a b c ea eb ec =
    let info : Shape → ℕ = λ b. b.info in
    rw (ea, eb, ec)
    (sym (sym (sum_info (shapes r)) ∙ sum_append info (blocks_in (batch_of r 0)) _
    ∙ ap₂ ◌+◌ (sum_batch info (get_or r 0 0) (get_or r 1 0) (get_or r 2 0)) (sum_append info (blocks_in (batch_of r 1)) (blocks_in (batch_of r 2))
    ∙ ap₂ ◌+◌ (sum_batch info (get_or r 3 0) (get_or r 4 0) (get_or r 5 0)) (sum_batch info (get_or r 6 0) (get_or r 7 0) (get_or r 8 0)))))

-- ---- a stream with something behind it

pub cut_front : (bs : List Shape) (t u : List ℕ) → total_size bs ≤ length t → cut bs (t ++ u) ≡ cut bs t
unfolding cut total_size
cut_front [] t u h = refl
cut_front (b ∷ bs) t u h =
    ap₂ (λ (w : List ℕ) (ws : List (List ℕ)). w ∷ ws) (take-append-le (size b) t u (omega arith))
    (ap (cut bs) (drop-append-le (size b) t u (omega arith)) ∙ cut_front bs (drop (size b) t) u (omega (arith, length-drop (size b) t)))

pub corrected_front : (bs : List Shape) (fl s : List ℕ) → total_size bs ≤ length s → corrected bs fl (take (total_size bs) s) ≡ corrected bs fl s
corrected_front bs fl s h =
    ap (outcomes bs (cut bs fl))
    (sym (cut_front bs (take (total_size bs) s) (drop (total_size bs) s) (omega (arith, length-take-le (total_size bs) s h)))
    ∙ ap (cut bs) (take-append-drop (total_size bs) s))
