-- SPECIFICATION 10.8: the segments that the commands of a script make of a payload.
use Rattle.std.specs.Prelude.{Bool, true, cond, ◌&&◌, List, [], ◌∷◌, ℕ, zero, suc, ◌+◌, ◌*◌, ◌%◌, ltb, eqb, leb, length, get_or, take, drop}
use Rattle.std.proofs.Math.Option.{Option, none, some, map, bind}
use Rattle.segments.specs.Script.{Segment, run, eci, bytes_of, command_of}

-- n payload bytes are allowed in a mode: no numeric segment is empty, a bytes segment has at most 8,191, modes 4 to 6 an even number
unfoldable pub allowed : ℕ → ℕ → Bool
allowed mode n = cond (eqb mode 1) (ltb 0 n) (cond (eqb mode 3) (leb n 8191) (cond (leb 4 mode) (eqb (n % 2) 0) true))

-- the first n bytes of a payload as a segment of a mode, where there are so many
abbrev pub taking : ℕ → ℕ → List ℕ → Option Segment
taking mode n p = cond (ltb (length p) n) none (some (run mode (take n p)))

-- The segment that the command at the front of the script s makes of the payload p; its operand is a length n in 2 bytes or a value v in 3,
-- big-endian: mode 7 takes 4 bytes, mode 8 has a value below 2^21,
-- modes 1 to 6 take as many bytes as their length says. None where the operand is cut short or not allowed, or the first byte is no command.
unfoldable pub segment_at : List ℕ → List ℕ → Option Segment
segment_at s p =
    let mode = get_or s 0 0 in
    let n = get_or s 1 0 * 256 + get_or s 2 0 in
    let v = get_or s 1 0 * 65536 + get_or s 2 0 * 256 + get_or s 3 0 in
    cond (eqb mode 7) (taking 7 4 p)
    (cond (eqb mode 8) (cond (ltb (length s) 4) none (cond (ltb 2097151 v) none (some (eci v))))
    (cond (leb 1 mode && leb mode 6) (cond (ltb (length s) 3) none (cond (allowed mode n) (taking mode n p) none)) none))

-- The segments one after the other: the command of each is taken off the script, its bytes off the payload. None where a command makes
-- none, and where payload is left at the end. k bounds the number of commands: each has a byte at least, so one more than the number of
-- bytes is never reached.
unfoldable pub commands : ℕ → List ℕ → List ℕ → Option (List Segment)
commands zero s p = none
commands (suc k) s p =
    cond (eqb (length s) 0) (cond (eqb (length p) 0) (some []) none)
    (bind (segment_at s p)
    (λ g. map (λ (gs : List Segment). g ∷ gs) (commands k (drop (length (command_of g)) s) (drop (length (bytes_of g)) p))))

-- the segments that the commands of a script make of a payload
abbrev pub commands_of : List ℕ → List ℕ → Option (List Segment)
commands_of s p = commands (length s + 1) s p
