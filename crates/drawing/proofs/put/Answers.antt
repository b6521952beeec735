-- `put` meets its contract. Assumes nothing.
use Rattle.drawing.proofs.Puts.{put_is, put_room}
use Rattle.drawing.proofs.put.Goals as goal

pub bounds-square-at-2 : goal.bounds-square-at-2
bounds-square-at-2 c = (put_room c.args.square.now c.args.at _ 0 0 0 0 0 0 c.requires).0

pub bounds-square-at-3 : goal.bounds-square-at-3
bounds-square-at-3 c = (put_room c.args.square.now c.args.at _ _ 0 0 0 0 0 c.requires).1

pub bounds-square-at-4 : goal.bounds-square-at-4
bounds-square-at-4 c = (put_room c.args.square.now c.args.at _ _ _ 0 0 0 0 c.requires).2

pub bounds-square-at-5 : goal.bounds-square-at-5
bounds-square-at-5 c = (put_room c.args.square.now c.args.at _ _ _ _ 0 0 0 c.requires).3

pub bounds-square-at-6 : goal.bounds-square-at-6
bounds-square-at-6 c = (put_room c.args.square.now c.args.at _ _ _ _ _ 0 0 c.requires).4

pub bounds-square-at-7 : goal.bounds-square-at-7
bounds-square-at-7 c = (put_room c.args.square.now c.args.at _ _ _ _ _ _ 0 c.requires).5

pub bounds-square-at-8 : goal.bounds-square-at-8
bounds-square-at-8 c = (put_room c.args.square.now c.args.at _ _ _ _ _ _ _ c.requires).6

pub returns : goal.returns
returns c = put_is c.args.square.now c.args.at _ _ _ _ _ _ _ _
