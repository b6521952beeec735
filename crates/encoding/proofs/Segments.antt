-- Segments that are left to write.
use Rattle.general.proofs.Names.{◌≡◌, refl, ap, ◌∙◌, sym, true, Option, none, some, List, [], ◌∷◌, ◌++◌, append_assoc, append-nil}
use Rattle.general.proofs.Names.{flat_map, ℕ, zero, suc, ◌+◌, ◌-◌, ◌*◌, ◌<◌, ◌≤◌, zero-add, add-zero, arith, eq-eqb, eqb, length}
use Rattle.general.proofs.Names.{get_or, take, drop, replicate, length-append, length-drop, dec_lt}
use Rattle.bits.specs.Bits.{bits_of, words}
use Rattle.general.proofs.Choices.{never, chosen}
use Rattle.bits.proofs.Bytes.{words_bits}
use Rattle.segments.specs.Script.{Segment, run, eci}
use Rattle.script.specs.declared.Command.{Command}
use Rattle.script.specs.declared.Command.TheVariants.{Run, Eci, Wrong}
use Rattle.script.specs.Writer.{has, encoding_of, encodings}
use Rattle.script.specs.Check.{commands, commands_of}
use Rattle.script.specs.Inner.{command_at, command_size, with, Fits, all_have, script_data}
use Rattle.script.proofs.Tests.{both}
use Rattle.script.proofs.Checks.{run_bounds, eci_bounds, at_wrong, at_eci, at_short, at_run}
use Rattle.encoding.specs.Written.{Written}

-- to write the segments hs of the rest of script and payload into the bytes t from the position a on is what is left of the whole
pub record Left (s p : List ℕ) (n : ℕ) (t : List ℕ) (i j a : ℕ) : Type 0 where
  pub fuel : ℕ
  pub enough : length s - i < fuel
  pub fits : Fits s p n
  pub rest : List Segment
  pub left : commands fuel (drop i s) (drop j p) ≡ some rest
  pub have : all_have rest ≡ true
  pub place : a + length (encodings rest) ≡ length (encodings fits.segments)
  pub bits : take a (bits_of t) ++ encodings rest ≡ encodings fits.segments

pub begun : (s p : List ℕ) (n : ℕ) (t : List ℕ) → ((i : ℕ) → get_or s i 0 < 256) → Fits s p n → Left s p n t 0 0 0
begun s p n t b f =
    record { fuel = length s + 1; enough = omega arith; fits = f; rest = f.segments; left = f.are; have = f.have; place = zero-add _; bits = refl }

-- the segment g in front of what is left, by a command of x bytes that takes y payload bytes
pub record Next (s p : List ℕ) (n : ℕ) (t : List ℕ) (i j a : ℕ) (g : Segment) (x y : ℕ) : Type 0 where
  pub command : i + x ≤ length s
  pub taken : y ≤ length p - j
  pub mode_has : has g ≡ true
  pub room : a + length (encoding_of g) ≤ 8 * n
  pub done : {t' : List ℕ} {r : ℕ} → Written t a (encoding_of g) r t' → Left s p n t' (i + x) (j + y) r

size_positive : (mode : ℕ) → 0 < command_size mode
unfolding command_size
size_positive mode = chosen (λ x. 0 < x) (eqb mode 7) (λ e. omega arith) (λ e. omega arith)

module _ {s p : List ℕ} {n : ℕ} {t : List ℕ} {i j a : ℕ} {c : Command} (h : i < length s) (e : c ≡ command_at (drop i s))
    (d : Left s p n t i j a) where
  -- what is left, with one turn to come
  here : commands (suc (d.fuel - 1)) (drop i s) (drop j p) ≡ some d.rest
  here = let z : suc (d.fuel - 1) ≡ d.fuel = omega arith in rw z d.left

  split : (g : Segment) (x y : ℕ) (z : Option (List Segment)) → commands (d.fuel - 1) (drop (i + x) s) (drop (j + y) p) ≡ z
      → with g z ≡ some d.rest → 0 < x → i + x ≤ length s → y ≤ length p - j → Next s p n t i j a g x y
  unfolding encodings flat_map
  split g x y none q f b k m = never cc
  split g x y (some hs) q f b k m =
      let r : d.rest ≡ g ∷ hs = cc in
      let both-have = both (has g) (all_have hs) (rw r at d.have) in
      let parts : a + (length (encoding_of g) + length (encodings hs)) ≡ length (encodings d.fits.segments) = rw (r, length-append) at d.place in
      let room = d.fits.room in
      record {
        command = k;
        taken = m;
        mode_has = both-have.0;
        room = omega arith;
        done =
            λ w. record {
              fuel = d.fuel - 1;
              enough = omega arith;
              fits = d.fits;
              rest = hs;
              left = q;
              have = both-have.1;
              place = rw w.behind (omega arith);
              bits = rw (w.bits, append_assoc) (rw r at d.bits);
            };
      }

  pub never_wrong : {A : Type 0} → c ≡ Wrong → A
  never_wrong q = let k : none ≡ some d.rest = sym (at_wrong s p i j h c e (d.fuel - 1) q) ∙ here in never cc

  module _ (b : (k : ℕ) → get_or s k 0 < 256) where
    pub run_next : {mode m : ℕ} → c ≡ Run mode m
        → (1 ≤ mode) × (mode ≤ 7) × Next s p n t i j a (run mode (take m (drop j p))) (command_size mode) m
    run_next {mode} {m} q =
        let bounds = run_bounds s i b h c e mode m q in (
          bounds.0,
          bounds.1,
          elim (dec_lt (length p - j) m) [
            | yes l ↦ let k : none ≡ some d.rest = sym (at_short s p i j h c e (d.fuel - 1) mode m q l) ∙ here in never cc
            | no l ↦ split (run mode (take m (drop j p))) (command_size mode) m _ refl (sym (at_run s p i j h c e (d.fuel - 1) mode m q (omega arith)) ∙ here)
                (size_positive mode) bounds.3 (omega arith)
          ],
        )

    pub eci_next : {v : ℕ} → c ≡ Eci v → Next s p n t i j a (eci v) 4 0
    eci_next {v} q =
        split (eci v) 4 0 (commands (d.fuel - 1) (drop (i + 4) s) (drop (j + 0) p)) refl
        (rw add-zero (sym (at_eci s p i j h c e (d.fuel - 1) v q) ∙ here)) (omega arith) (eci_bounds s i b h c e v q) (omega arith)

-- the end of the script
module _ {s p : List ℕ} {n : ℕ} {t : List ℕ} {i j a : ℕ} (h : length s ≤ i) (d : Left s p n t i j a) where
  last : (f : ℕ) → 0 < f → commands f (drop i s) (drop j p) ≡ some d.rest → d.rest ≡ []
  unfolding commands
  last zero l e = absurd (omega arith)
  last (suc f) l e =
      let z : length (drop i s) ≡ 0 = rw length-drop (omega arith) in
      chosen (λ z. z ≡ some d.rest → d.rest ≡ []) (eqb (length (drop j p)) 0) (λ q k. cc) (λ q k. never cc) (rw (eq-eqb (length (drop i s)) 0 z) at e)

  nothing : d.rest ≡ []
  nothing = last d.fuel (omega arith) d.left

  place_is : a ≡ length (encodings d.fits.segments)
  unfolding encodings flat_map
  place_is = rw (nothing, add-zero) at d.place

  -- zeros behind
  pub ended : (u : List ℕ) → ((k : ℕ) → get_or u k 0 < 256) → bits_of u ≡ take a (bits_of t) ++ replicate (8 * n - a) 0
      → u ≡ script_data n (commands_of s p)
  unfolding encodings flat_map
  ended u b e =
      let q : take a (bits_of t) ≡ encodings d.fits.segments = rw (nothing, append-nil) at d.bits in
      rw d.fits.are (sym (words_bits u b) ∙ ap (words 8) (rw (q, place_is) at e))
