-- Bytes copied one after the other.
use Rattle.general.proofs.Names.{◌≡◌, ◌∙◌, sym, List, ◌++◌, ℕ, suc, ◌+◌, ◌<◌, add-one, arith, length, get_or, take, drop, set, drop-cons, take-suc, set_at}
use Rattle.general.proofs.Names.{append_snoc, length-take-le}

-- a turn of `copy`
pub copy_more : (o s : List ℕ) (i : ℕ) → i < length o → i < length s → set (take i s ++ drop i o) i (get_or s i 0) ≡ take (i + 1) s ++ drop (i + 1) o
copy_more o s i h g =
    rw (drop-cons o i 0 h, add-one, take-suc s i 0 g)
    (set_at (take i s) (get_or o i 0) (drop (suc i) o) (get_or s i 0) i (length-take-le i s (omega arith)) ∙ sym (append_snoc (take i s) (get_or s i 0) (drop (suc i) o)))
