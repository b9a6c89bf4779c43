-- 02, n, the whole of it (statement: specs/Best.antt, `GreyCaption`).
-- Assumes nothing.
use Rattle.grey_caption.specs.Best.{GreyCaption}
use Rattle.grey_caption.proofs.Demand as demand
use Rattle.grey_caption.proofs.Choices as choices

pub grey_caption_lem : GreyCaption
grey_caption_lem = record {
  at_settings = λ e0 e1 h0 h1 w h. choices.at_settings e0 e1 w h0 h1 h;
  chosen = choices.chosen;
  shows = demand.shows;
  best = demand.best;
  local = demand.local;
  placed = demand.placed;
}
