-- `add_roots` meets its contract: one erased place after the other. Assumes nothing.
use Rattle.general.proofs.Names.{refl, sym, ◌∙◌, arith}
use Rattle.field.proofs.Entries.{the_field}
use Rattle.erasures.proofs.Rooting.{rooted_start, rooted_next, rooted_end, rooted_room}
use Rattle.erasures.proofs.add_roots.Goals as goal

pub loop-k-init : goal.loop-k-init
loop-k-init c =
    let one = c.requires.f_len in
    (rooted_start _ (the_field _ c.requires.field) _ c.requires.flags_len_bound.0 _ _ _ one.0 (λ i. omega (arith, c.type_inv.f i)) one.1 one.2, omega arith)

pub add_root_if-at-requires : goal.add_root_if-at-requires
add_root_if-at-requires c = let room = rooted_room c.loop-k.invariant.0 (omega arith) c.requires.flags_len_bound.1 in
    record { field = c.requires.field; f_len = (c.loop-k.invariant.0.size, room.1, room.0, omega arith, c.loop-k.invariant.0.tail) }

pub loop-k-preserved : goal.loop-k-preserved
loop-k-preserved c = (rooted_next _ (the_field _ c.requires.field) _ c.requires.flags_len_bound.0 _ _ _ _ _ _ (omega arith) c.loop-k.invariant.0 _ _ _ _ refl refl c.add_root_if-at.ensures, omega arith)

pub shape_of-f : goal.shape_of-f
shape_of-f c = c.loop-k.invariant.0.size ∙ sym c.requires.f_len.0

pub returns : goal.returns
returns c = rooted_end _ (the_field _ c.requires.field) _ c.requires.flags_len_bound.0 _ _ _ _ _ _ _ c.loop-k.invariant.0 (omega arith) (omega arith)
