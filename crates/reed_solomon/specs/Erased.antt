-- SPECIFICATION 3.9: a block with erased places, and the codeword that its rule admits. A flag stands beside each byte of the block; a place
-- is erased where its flag is not 0.
use Rattle.std.specs.Prelude.{◌≡◌, ◌⊎◌, Bool, cond, ◌&&◌, ◌||◌, ℕ, suc, ◌+◌, ◌*◌, ◌/◌, ◌≤◌, ◌<◌, leb, eqb, length}
use Rattle.std.proofs.Math.Option.{Option}
use mathlib.Core.List.{List, foldr, zip_with}
use Rattle.reed_solomon.specs.Block.{is_codeword, distance, all_words, first_that, is_word, in_reach}

-- how many places are erased
unfoldable pub erasures : List ℕ → ℕ
erasures flags = foldr (λ f n. cond (eqb f 0) n (suc n)) 0 flags

-- a block with 0 at its erased places
unfoldable pub unerased : List ℕ → List ℕ → List ℕ
unerased flags block = zip_with (λ f b. cond (eqb f 0) b 0) flags block

-- in how many unerased places two blocks of one length differ
unfoldable pub unerased_distance : List ℕ → List ℕ → List ℕ → ℕ
unerased_distance flags u v = distance (unerased flags u) (unerased flags v)

-- w is in reach of a block with erased places, no more than its parity: a codeword of the same length and parity that is the block itself, or
-- that differs from it in e unerased places with 2 e + erased places + 2 ≤ parity
unfoldable pub in_reach_erased : ℕ → ℕ → ℕ → List ℕ → List ℕ → List ℕ → Bool
in_reach_erased poly first parity flags block w =
    leb (erasures flags) parity
    && (is_word (length block) w
    && (is_codeword poly first parity w
    && (eqb (distance block w) 0 || leb (2 * unerased_distance flags block w + erasures flags + 2) parity)))

-- w is admitted by the rule of a block: by that of erased places where it has some, else by reach (3.5)
unfoldable pub admits : ℕ → ℕ → ℕ → List ℕ → List ℕ → List ℕ → Bool
admits poly first parity flags block w =
    cond (eqb (erasures flags) 0) (in_reach poly first parity block w) (in_reach_erased poly first parity flags block w)

-- the codeword that its rule admits, if there is one: a search over all words of its length, to be believed and not to be run
unfoldable pub admitted : ℕ → ℕ → ℕ → List ℕ → List ℕ → Option (List ℕ)
admitted poly first parity flags block = first_that (admits poly first parity flags block) (all_words (length block))

-- what its rule asks of a block beside a codeword w: with no place erased they differ in at most floor(parity / 2) places; with some erased,
-- no more than the parity, they differ in none, or in e unerased places with 2 e + erased places + 2 ≤ parity
pub record Meets (parity : ℕ) (flags block w : List ℕ) : Type 0 where
  pub none : erasures flags ≡ 0 → distance block w ≤ parity / 2
  pub few : 0 < erasures flags → erasures flags ≤ parity
  pub some : 0 < erasures flags → (distance block w ≡ 0) ⊎ (2 * unerased_distance flags block w + erasures flags + 2 ≤ parity)
