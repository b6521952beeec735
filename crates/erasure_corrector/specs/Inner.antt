-- What inner functions say of each other. Nobody has to believe it: the contracts of the operations do not cite it.
use Rattle.std.specs.Prelude.{◌≡◌, ◌≢◌, Bool, true, false, cond, List, ℕ, ◌≤◌, ◌<◌, T, eqb, length, set}
use Rattle.reed_solomon.specs.Sum.{seq}
use Rattle.reed_solomon.specs.Block.{is_codeword}
use Rattle.reed_solomon.specs.Erased.{erasures}

-- a block of that parity with f erased places, one at least and no more than the parity
pub record HasErased (parity : ℕ) (flags w : List ℕ) (f : ℕ) : Type 0 where
  pub parity_le : parity ≤ 254
  pub small : length w ≤ 255
  pub size : length flags ≡ length w
  pub some : 0 < f
  pub fit : f ≤ parity
  pub are : f ≡ erasures flags

-- k is the length, or the only erased place of f of a block that may be repaired there alone
pub record OnlyErased (parity : ℕ) (flags : List ℕ) (f k : ℕ) : Type 0 where
  pub erased : k < length flags → seq flags k ≢ 0
  pub one : k < length flags → (f ≡ 1) × (3 ≤ parity)

-- what became of w, in which f places are erased: a codeword that differs from it at most at the only one, and counted; or left as it was
pub record TriedOne (parity : ℕ) (flags w : List ℕ) (f : ℕ) (done : Bool) (count : ℕ) (w' : List ℕ) : Type 0 where
  pub place : ℕ
  pub byte : ℕ
  pub inside : true ≡ done → place < length w
  pub only : true ≡ done → OnlyErased parity flags f place
  pub is : true ≡ done → w' ≡ set w place byte
  pub code : true ≡ done → T (is_codeword 0x163 1 parity w')
  pub counted : true ≡ done → count ≡ cond (eqb (seq w place) byte) 0 1
  pub left : false ≡ done → w' ≡ w
