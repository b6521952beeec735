-- What inner functions say of each other. Nobody has to believe it: the contracts of the operations do not cite it.
use Rattle.std.specs.Prelude.{◌≡◌, Bool, true, false, List, ℕ, ◌<◌, T, length}
use Rattle.reed_solomon.specs.Sum.{◌⊕◌, seq, degree}
use Rattle.reed_solomon.specs.Block.{is_codeword, distance}
use Rattle.reed_solomon.specs.Places.{locator_at}
use Rattle.reed_solomon.specs.Inner.{Locates}

-- w' is a codeword that differs from w at zeros of h alone, in as many places as counted
pub record Fixed (poly first parity : ℕ) (w h : List ℕ) (l count : ℕ) (w' : List ℕ) : Type 0 where
  pub size : length w' ≡ length w
  pub bytes : (i : ℕ) → seq w' i < 256
  pub code : T (is_codeword poly first parity w')
  pub root : (k : ℕ) → k < length w → (seq w k ≡ seq w' k → ⊥) → locator_at poly h l (degree (length w) k) ≡ 0
  pub counted : count ≡ distance w w'

-- what became of w with the syndromes s: fixed, or left as it was; and it became any codeword whose errors h of length l locates
pub record Applied (poly first parity : ℕ) (w s h : List ℕ) (l : ℕ) (done : Bool) (count : ℕ) (w' : List ℕ) : Type 0 where
  pub fixed : true ≡ done → Fixed poly first parity w h l count w'
  pub left : false ≡ done → w' ≡ w
  pub found : (c : List ℕ) → length c ≡ length w → Locates poly first parity (length w) (λ i. seq w i ⊕ seq c i) s h l → (true ≡ done) × (w' ≡ c)
