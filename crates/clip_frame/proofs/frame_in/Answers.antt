use Rattle.clip_frame.proofs.frame_in.Goals as goal

pub returns : goal.returns
returns c = rw (c.wide-4.ensures.0, c.wide-3.ensures.0, c.wide-2.ensures.0, c.wide.ensures.0)
