-- `writer::Writer::put_user` meets its contract.
-- Assumes nothing.
use mathlib.Core.Path.{ap, ◌∙◌}
use native.Mathlib.Omega.{arith}
use Rattle.bflan.proofs.writer.Pens.{pen_of, stored_of, ready_in, moved_on, wrote_behind, behind-within}
use Rattle.bflan.proofs.writer.LayoutParts.{user_ready, user_left, user_done}
use Rattle.bflan.proofs.writer.Writer.put_user.Goals as goal

pub put_infos-left_out-requires : goal.put_infos-left_out-requires
put_infos-left_out-requires c = let w = c.args.self.now in (
  omega (arith, c.requires.0),
  ready_in (c.write_placeholder_u32-total.auto.out ∙ c.write.auto.out) (user_ready c.args.n w.words.now w.texts.now (pen_of w) c.args.start c.requires.1 c.requires.0),
)

pub overflow_add-start : goal.overflow_add-start
overflow_add-start c = let w = c.args.self.now in omega (
  arith,
  user_left c.args.n w.words.now w.texts.now (pen_of w) c.args.start c.requires.1 c.requires.0 (ap pen_of c.put_infos-left_out.ensures.0) c.put_infos-left_out.ensures.1,
)

pub distance-requires : goal.distance-requires
distance-requires c =
    let w = c.args.self.now in
    let e = ap pen_of c.put_infos-left_out.ensures.0 in
    let r = user_ready c.args.n w.words.now w.texts.now (pen_of w) c.args.start c.requires.1 c.requires.0 in
    (user_left c.args.n w.words.now w.texts.now (pen_of w) c.args.start c.requires.1 c.requires.0 e c.put_infos-left_out.ensures.1, omega (arith, (behind-within _ r e).1))

pub returns : goal.returns
returns c =
    let w = c.args.self.now in
    let d = user_done c.args.n w.words.now w.texts.now (pen_of w) c.args.start c.requires.1 c.requires.0 w.out.now c.write.ensures c.write_placeholder_u32-total.ensures.0 c.write_placeholder_u32-total.ensures.1
    (ap pen_of c.put_infos-left_out.ensures.0) (ap stored_of c.put_infos-left_out.ensures.0) c.put_infos-left_out.ensures.1 (rw c.distance.ensures at c.patch_u32.ensures) in
    moved_on w c.put_infos-left_out.ensures.0 (pen_of c.put_infos-left_out.new.self) c.patch_u32.new.out ∙ wrote_behind _ _ w d
