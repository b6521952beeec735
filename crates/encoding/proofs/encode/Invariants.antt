use Rattle.general.proofs.Names.{◌≡◌, ◌-◌, ◌≤◌, length}
use Rattle.encoding.proofs.Segments.{Left}
use Rattle.encoding.proofs.encode.Given as goal

abbrev pub invariant-loop-i : goal.invariant-loop-i
invariant-loop-i l = (length l.codewords ≡ length l.initial.codewords) × (l.i ≤ length l.script) × (l.j ≤ length l.payload) × (length l.initial.codewords ≤ 3886) × Left l.script l.payload
    (length l.initial.codewords) l.codewords l.i l.j l.at

abbrev pub decreases-loop-i : goal.decreases-loop-i
decreases-loop-i l = length l.script - l.i
