-- `eci_at` meets its contract. Assumes nothing.
use Rattle.script.proofs.Checks.{eci_cut, eci_large, eci_read}
use Rattle.script.proofs.commands.eci_at.Goals as goal

pub returns-then-script-i-lt4 : goal.returns-then-script-i-lt4
returns-then-script-i-lt4 c = eci_cut c.args.script.now c.args.i c.if-script-i-lt4.true

pub returns-then-v-gt2097151 : goal.returns-then-v-gt2097151
returns-then-v-gt2097151 c =
    eci_large c.args.script.now c.args.i c.as_usize.result c.as_usize-2.result c.as_usize-3.result c.if-script-i-lt4.false c.as_usize.ensures.0
    c.as_usize-2.ensures.0 c.as_usize-3.ensures.0 c.if-v-gt2097151.true

pub returns : goal.returns
returns c =
    eci_read c.args.script.now c.args.i c.as_usize.result c.as_usize-2.result c.as_usize-3.result c.if-script-i-lt4.false c.as_usize.ensures.0
    c.as_usize-2.ensures.0 c.as_usize-3.ensures.0 c.if-v-gt2097151.false
