-- Something of each block of one list put in its place in another: data gathered, and blocks written. Assumes nothing.
use Rattle.general.proofs.Names.{◌≡◌, refl, sym, ap, ap₂, ◌∙◌, List, [], ◌∷◌, ◌++◌, flat_map, zip_with, ℕ, ◌+◌, ◌-◌, ◌*◌, ◌≤◌, ◌<◌, add-zero, add_assoc, arith}
use Rattle.general.proofs.Names.{length, take, drop, length-drop, take-append-drop, drop-drop, take_at, drop_at, take-take, length-take-le}
use Rattle.parity.specs.Encode.{written_of}
use Rattle.remainder.specs.Words.{Prepared}
use Rattle.reed_solomon.proofs.Search.{Bytes}
use Rattle.block_table.specs.Blocks.{Shape, size, batch, total_size, total_data, cut, joined, data_parts, cut_data}
use Rattle.block_table.specs.Inner.{Sound}
use Rattle.blocks.specs.Blockwise.{with_parities, stream_of}
use Rattle.blocks.specs.declared.Batch.{Batch}
use Rattle.blocks.specs.Inner.{batch_of, blocks_in, behind, spliced, Transfer, gathering, writing, sum, transferred, TransferRoom}
use Rattle.blocks.proofs.Splice.{part_back, spliced_behind, spliced_more, spliced_length}
use Rattle.blocks.proofs.Rule.{behind_next, batch_next, sum_append, sum_batch, sum_size, sum_info}
use Rattle.blocks.proofs.RefusedStreams.{Coded}
use Rattle.blocks.proofs.Written.{encoded_coded}

-- ---- some blocks behind others

transferred_append : (w : Transfer) (bs cs : List Shape) (a f : ℕ) (t s : List ℕ)
    → transferred w (bs ++ cs) a f t s ≡ transferred w cs (a + sum w.fills bs) (f + sum w.takes bs) t (transferred w bs a f t s)
unfolding transferred sum
transferred_append w [] cs a f t s = ap₂ (λ (x y : ℕ). transferred w cs x y t s) (sym (add-zero a)) (sym (add-zero f))
transferred_append w (b ∷ bs) cs a f t s =
    simp add_assoc at (transferred_append w bs cs (a + w.fills b) (f + w.takes b) t (spliced a (w.fills b) (w.makes b (drop f t)) s))

-- ---- a loop over blocks

-- Where the work on bs stands: rest is left to do, of t from f' on and in s' from a' on.
pub record TransferLeft (w : Transfer) (bs : List Shape) (a f : ℕ) (t s : List ℕ) (rest : List Shape) (a' f' : ℕ) (s' : List ℕ) : Type 0 where
  pub same : transferred w bs a f t s ≡ transferred w rest a' f' t s'
  pub size : length s' ≡ length s
  pub place : a' + sum w.fills rest ≡ a + sum w.fills bs
  pub room : TransferRoom w rest a' f' t s'

pub transfer_start : {w : Transfer} {bs : List Shape} {a f : ℕ} {t s : List ℕ} → TransferRoom w bs a f t s → TransferLeft w bs a f t s bs a f s
transfer_start R = record { same = refl; size = refl; place = refl; room = R }

module _ {w : Transfer} {bs : List Shape} {a f : ℕ} {t s : List ℕ} {rest : List Shape} {a' f' : ℕ} {s' : List ℕ} (P : TransferLeft w bs a f t s rest a' f' s')
    (cs ds : List Shape) (e : rest ≡ cs ++ ds) where
  into : sum w.fills rest ≡ sum w.fills cs + sum w.fills ds
  into = ap (sum w.fills) e ∙ sum_append w.fills cs ds

  out : sum w.takes rest ≡ sum w.takes cs + sum w.takes ds
  out = ap (sum w.takes) e ∙ sum_append w.takes cs ds

  pub transfer_room : TransferRoom w cs a' f' t s'
  transfer_room = record { into = omega (arith, P.room.into, into); out = omega (arith, P.room.out, out) }

  pub transfer_next : (a'' f'' : ℕ) {s'' : List ℕ} → s'' ≡ transferred w cs a' f' t s' → length s'' ≡ length s' → a'' ≡ a' + sum w.fills cs
      → f'' ≡ f' + sum w.takes cs → TransferLeft w bs a f t s ds a'' f'' s''
  transfer_next a'' f'' {s''} g k x y = record {
    same = P.same ∙ rw (e, g, x, y) (transferred_append w cs ds a' f' t s');
    size = k ∙ P.size;
    place = omega (arith, P.place, into);
    room = record { into = omega (arith, P.room.into, into); out = omega (arith, P.room.out, out) };
  }

-- one block of a batch
module _ (n d p : ℕ) {w : Transfer} {bs : List Shape} {a f : ℕ} {t s : List ℕ} {a' f' : ℕ} {s' : List ℕ} (P : TransferLeft w bs a f t s (batch n d p) a' f' s')
    (some : 0 < n) where
  pub one_room : (a' + w.fills (record { info = d; parity = p }) ≤ length s') × (f' + w.takes (record { info = d; parity = p }) ≤ length t)
  one_room =
      let R = transfer_room P (batch 1 d p) (batch (n - 1) d p) (batch_next n d p some) in
      (omega (arith, sum_batch w.fills 1 d p), omega (arith, sum_batch w.takes 1 d p))

  pub one_next : {s'' : List ℕ} → s'' ≡ transferred w (batch 1 d p) a' f' t s' → length s'' ≡ length s'
      → TransferLeft w bs a f t s (batch (n - 1) d p) (a' + w.fills (record { info = d; parity = p })) (f' + w.takes (record { info = d; parity = p })) s''
  one_next g k =
      transfer_next P (batch 1 d p) (batch (n - 1) d p) (batch_next n d p some) _ _ g k (omega (arith, sum_batch w.fills 1 d p))
      (omega (arith, sum_batch w.takes 1 d p))

-- the only block of a batch
pub only_room : {w : Transfer} (b : Batch) {a f : ℕ} {t s : List ℕ} → b.count ≡ 1 → TransferRoom w (blocks_in b) a f t s
    → (a + w.fills (record { info = b.info; parity = b.parity }) ≤ length s) × (f + w.takes (record { info = b.info; parity = b.parity }) ≤ length t)
only_room b e R = one_room b.count b.info b.parity (transfer_start R) (omega arith)

-- one batch of a row
module _ (r : List ℕ) (k : ℕ) {w : Transfer} {bs : List Shape} {a f : ℕ} {t s : List ℕ} {a' f' : ℕ} {s' : List ℕ} (P : TransferLeft w bs a f t s (behind k r) a' f' s')
    (few : k < 3) (b : Batch) (read : b ≡ batch_of r k) where
  pub batch_room : TransferRoom w (blocks_in b) a' f' t s'
  batch_room = transfer_room P (blocks_in b) (behind (k + 1) r) (behind_next r k few b read)

  pub batch_transferred : {s'' : List ℕ} → s'' ≡ transferred w (blocks_in b) a' f' t s' → length s'' ≡ length s'
      → TransferLeft w bs a f t s (behind (k + 1) r) (a' + b.count * w.fills (record { info = b.info; parity = b.parity }))
      (f' + b.count * w.takes (record { info = b.info; parity = b.parity })) s''
  batch_transferred g l =
      transfer_next P (blocks_in b) (behind (k + 1) r) (behind_next r k few b read) _ _ g l
      (ap (λ (n : ℕ). a' + n) (sym (sum_batch w.fills b.count b.info b.parity)))
      (ap (λ (n : ℕ). f' + n) (sym (sum_batch w.takes b.count b.info b.parity)))

module _ {w : Transfer} {bs : List Shape} {a f : ℕ} {t s : List ℕ} {rest : List Shape} {a' f' : ℕ} {s' : List ℕ} (P : TransferLeft w bs a f t s rest a' f' s')
    (e : rest ≡ []) where
  pub transfer_end : s' ≡ transferred w bs a f t s
  unfolding transferred
  transfer_end = sym (P.same ∙ ap (λ (l : List Shape). transferred w l a' f' t s') e)

  pub transfer_place : a' ≡ a + sum w.fills bs
  unfolding sum
  transfer_place = omega (arith, ap (sum w.fills) e)

-- ---- what all blocks come to

made : Transfer → List Shape → List ℕ → List ℕ
made w [] t = []
made w (b ∷ bs) t = w.makes b t ++ made w bs (drop (w.takes b) t)

-- each fills its place
abbrev Fills : Transfer → List Shape → List ℕ → Type 0
Fills w [] t = Unit {0}
Fills w (b ∷ bs) t = (length (w.makes b t) ≡ w.fills b) × Fills w bs (drop (w.takes b) t)

transferred_is : (w : Transfer) (bs : List Shape) (a f : ℕ) (t s : List ℕ) → Fills w bs (drop f t) → a + sum w.fills bs ≤ length s
    → transferred w bs a f t s ≡ spliced a (sum w.fills bs) (made w bs (drop f t)) s
unfolding transferred sum made spliced
transferred_is w [] a f t s F h = sym (ap (λ (k : ℕ). take a s ++ drop k s) (add-zero a) ∙ take-append-drop a s)
transferred_is w (b ∷ bs) a f t s F h =
    let n = w.fills b in
    let xs = w.makes b (drop f t) in
    let room : a + n ≤ length s = omega arith in
    rw drop-drop (transferred_is w bs (a + n) (f + w.takes b) t (spliced a n xs s) (rw drop-drop at F.1)
    (omega (arith, spliced_length a n xs s F.0 room)) ∙ spliced_more a n xs s F.0 room (sum w.fills bs) (made w bs (drop (f + w.takes b) t)))

gathered_fills : (bs : List Shape) (t : List ℕ) → total_size bs ≤ length t → Fills gathering bs t
unfolding total_size
gathered_fills [] t h = tt
gathered_fills (b ∷ bs) t h = (length-take-le b.info t (omega arith), gathered_fills bs (drop (size b) t) (omega (arith, length-drop (size b) t)))

made_gathered : (bs : List Shape) (t : List ℕ) → made gathering bs t ≡ data_parts bs (cut bs t)
unfolding made data_parts cut zip_with joined flat_map
made_gathered [] t = refl
made_gathered (b ∷ bs) t = ap₂ ◌++◌ (sym (take-take b.info (size b) t (omega arith))) (made_gathered bs (drop (size b) t))

written_fills : (bs : List Shape) (t : List ℕ) → Coded bs (with_parities bs (cut_data bs t)) → Fills writing bs t
unfolding with_parities cut_data zip_with
written_fills [] t C = tt
written_fills (b ∷ bs) t C = (C.0.0, written_fills bs (drop b.info t) C.1)

made_written : (bs : List Shape) (t : List ℕ) → made writing bs t ≡ stream_of bs t
unfolding made joined with_parities cut_data flat_map zip_with
made_written [] t = refl
made_written (b ∷ bs) t = ap (λ (l : List ℕ). writing.makes b t ++ l) (made_written bs (drop b.info t))

-- ---- the blocks of a row

module _ (bs : List Shape) (t s : List ℕ) where
  module _ (h : total_size bs ≤ length t) (l : total_data bs ≤ length s) where
    pub row_gathers : TransferRoom gathering bs 0 0 t s
    row_gathers = record { into = omega (arith, sum_info bs); out = omega (arith, sum_size bs) }

    pub gathered_row : (n : ℕ) → n ≡ 0 + sum (λ b. b.info) bs
        → (n ≡ total_data bs) × (transferred gathering bs 0 0 t s ≡ data_parts bs (cut bs t) ++ drop n s)
    unfolding spliced
    gathered_row n e = (
      omega (arith, sum_info bs),
      transferred_is gathering bs 0 0 t s (gathered_fills bs t h) (omega (arith, sum_info bs))
          ∙ ap₂ (λ (xs : List ℕ) (k : ℕ). xs ++ drop k s) (made_gathered bs t) (sym e),
    )

  module _ (h : total_size bs ≤ length s) (l : total_data bs ≤ length t) where
    pub row_writes : TransferRoom writing bs 0 0 t s
    row_writes = record { into = omega (arith, sum_size bs); out = omega (arith, sum_info bs) }

    pub written_row : Sound bs → Bytes t → transferred writing bs 0 0 t s ≡ stream_of bs t ++ drop (total_size bs) s
    unfolding spliced
    written_row S bytes =
        let n : 0 + sum (λ b. size b) bs ≡ total_size bs = omega (arith, sum_size bs) in
        transferred_is writing bs 0 0 t s (written_fills bs t (encoded_coded bs t S bytes l).0) (omega arith)
        ∙ ap₂ (λ (xs : List ℕ) (k : ℕ). xs ++ drop k s) (made_written bs t) n

-- ---- one block

-- a part has the length that its ends say
pub part_length : (a e n : ℕ) (s : List ℕ) → e ≡ a + n → e ≤ length s → length (take (e - a) (drop a s)) ≡ n
part_length a e n s h l = let m : e - a ≡ n = omega arith in length-take-le (e - a) (drop a s) (omega (arith, length-drop a s)) ∙ m

pub prepared_as : {n m : ℕ} {t : List ℕ} → Prepared n t → n ≡ m → Prepared m t
prepared_as Q e = rw e at Q

-- Data that were put in front of their block, and that block, lent, as its parity is written.
module _ (d p a e f : ℕ) (t s s₁ ys : List ℕ) (end : e ≡ a + (d + p)) (inside : e ≤ length s) (within : f + d ≤ length t)
    (put : s₁ ≡ spliced a d (take d (drop f t)) s)
    (made : ys ≡ written_of 0x163 1 (length (take (e - a) (drop a s₁)) - d) (take (e - a) (drop a s₁))) where
  abbrev ds : List ℕ
  ds = take d (drop f t)

  data_size : length ds ≡ d
  data_size = length-take-le d (drop f t) (omega (arith, length-drop f t))

  here : a + d ≤ length s
  here = omega arith

  lent : length (take (e - a) (drop a s₁)) ≡ d + p
  lent = part_length a e (d + p) s₁ end (omega (arith, ap length put ∙ spliced_length a d ds s data_size here))

  front : take d (take (e - a) (drop a s₁)) ≡ ds
  unfolding spliced
  front =
      rw (take-take d (e - a) (drop a s₁) (omega arith), put, drop_at (take a s) _ a (length-take-le a s (omega arith)), take_at ds _ d data_size)

  is : ys ≡ writing.makes (record { info = d; parity = p }) (drop f t)
  unfolding written_of
  is =
      let n : length (take (e - a) (drop a s₁)) - d ≡ p = omega (arith, lent) in
      let m : length (take (e - a) (drop a s₁)) - p ≡ d = omega (arith, lent) in
      made ∙ rw (n, m, front)

  pub one_written : take a s₁ ++ (ys ++ drop (e - a) (drop a s₁)) ≡ transferred writing (batch 1 d p) a f t s
  unfolding transferred batch spliced
  one_written =
      rw (part_back a (d + p) e s₁ ys end, is, put, take_at (take a s) (ds ++ drop (a + d) s) a (length-take-le a s (omega arith)), ← add_assoc a d p)
      (rw (← drop-drop p (a + d) (spliced a d ds s), spliced_behind a d ds s data_size here, drop-drop))
