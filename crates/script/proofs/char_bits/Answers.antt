-- `char_bits` meets its contract. Assumes nothing.
use Rattle.general.proofs.Names.{refl, ◌+◌, ◌≤◌, ◌*◌, arith}
use Rattle.script.specs.Characters.{begins_in}
use Rattle.script.proofs.Runs.{counted_end, counted_lacks, counted_same, counted_other, small}
use Rattle.script.proofs.char_bits.Goals as goal
use Rattle.script.proofs.char_bits.Goals.{After-width}

-- no run has many bits
few : (c : After-width) → c.width.result * (c.loop-j.words + 1) ≤ 15000000
few c = small _ (c.loop-j.words + 1) (omega arith) (omega arith)

pub loop-j-init : goal.loop-j-init
loop-j-init c = record { room = omega arith; few = omega arith; have = refl; words = omega arith }

pub character_at-g-requires : goal.character_at-g-requires
unfolding begins_in
character_at-g-requires c = omega arith

pub overflow_add-words : goal.overflow_add-words
unfolding begins_in
overflow_add-words c = omega arith

pub overflow_add-j : goal.overflow_add-j
unfolding begins_in
overflow_add-j c = omega arith

pub loop-j-preserved-in-Same : goal.loop-j-preserved-in-Same
loop-j-preserved-in-Same c =
    let s = c.step-by.ensures in
    counted_same c.loop-j.invariant _ c.character_at-g.ensures s.0 s.1 c.in-Same.is

pub loop-j-smaller-in-Same : goal.loop-j-smaller-in-Same
loop-j-smaller-in-Same c = let t = (loop-j-preserved-in-Same c).room in omega arith

pub overflow_add-words-in-Other : goal.overflow_add-words-in-Other
unfolding begins_in
overflow_add-words-in-Other c = omega arith

pub overflow_add-j-in-Other : goal.overflow_add-j-in-Other
unfolding begins_in
overflow_add-j-in-Other c = omega arith

pub loop-j-preserved : goal.loop-j-preserved
loop-j-preserved c =
    let s = c.step-by.ensures in
    counted_other c.loop-j.invariant _ c.character_at-g.ensures s.0 s.1 c.in-Other.is

pub loop-j-smaller : goal.loop-j-smaller
loop-j-smaller c = let t = (loop-j-preserved c).room in omega arith

pub returns-in-Lacking : goal.returns-in-Lacking
returns-in-Lacking c = (counted_lacks c.loop-j.invariant c.character_at-g.result c.character_at-g.ensures c.in-Lacking.is, tt)

pub overflow_add-result : goal.overflow_add-result
unfolding begins_in
overflow_add-result c = omega arith

pub overflow_mul-result : goal.overflow_mul-result
unfolding begins_in
overflow_mul-result c = omega (arith, few (goal.at.overflow_mul-result c).After-width)

pub overflow_add-result-2 : goal.overflow_add-result-2
unfolding begins_in
overflow_add-result-2 c = omega (arith, few (goal.at.overflow_add-result-2 c).After-width)

pub returns : goal.returns
unfolding begins_in
returns c = (rw c.width.ensures.0 (counted_end c.loop-j.invariant (omega arith) refl), omega (arith, few (goal.at.returns c).After-width))
