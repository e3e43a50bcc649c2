-- Each step of the code is the model's: the places of the model, one by one.
use mathlib.Core.List.{[], ◌∷◌}
use Rattle.model.specs.Store as Model
use Rattle.simulation.proofs.Open.{open_announce-sim, open_pass-sim, close_withdraw-sim}
use Rattle.simulation.proofs.Marking.{mark_keep-sim, mark_release-sim}
use Rattle.simulation.proofs.Read.{read_enter-sim, read_stand-sim, get_show-sim}
use Rattle.simulation.proofs.Put.{put-publish_sim, put-stamp_sim}
use Rattle.simulation.proofs.Rest.{idle_sim, flush_done_sim}
use Rattle.simulation.proofs.HandIn.{put-hand_in_sim}
use Rattle.simulation.proofs.FlushTake.{flush_take-sim}
use Rattle.simulation.proofs.FlushRead.{flush_read-sim}
use Rattle.simulation.proofs.FlushFree.{freed_sim}
use Rattle.simulation.proofs.Assembly.{StepsSimulate}

pub steps : StepsSimulate
steps s m w Model.Idle L S Z B laid h e N = idle_sim s m w S Z laid h e
steps s m w (Model.PutPublish r x) L S Z B laid h e N = put-publish_sim s m w r x S Z laid h e
steps s m w (Model.PutStamp r c) L S Z B laid h e N = put-stamp_sim s m w r c S Z laid h e
steps s m w (Model.PutHandIn r c) L S Z B laid h e N = put-hand_in_sim s m w r c S Z laid h e N
steps s m w Model.FlushTake L S Z B laid h e N = flush_take-sim s m w S Z B laid h e N
steps s m w (Model.FlushRead l ts) L S Z B laid h e N = flush_read-sim s m w l ts S Z B laid h e N
steps s m w (Model.FlushFree []) L S Z B laid h e N = flush_done_sim s m w S Z laid h e
steps s m w (Model.FlushFree (ρ ∷ l)) L S Z B laid h e N = freed_sim s m w ρ l S Z laid h e N
steps s m w (Model.OnTime Model.OpenAnnounce) L S Z B laid h e N = open_announce-sim s m w S Z laid h e
steps s m w (Model.OnTime Model.OpenPass) L S Z B laid h e N = open_pass-sim s m w S Z laid h e
steps s m w (Model.OnTime Model.CloseWithdraw) L S Z B laid h e N = close_withdraw-sim s m w S Z laid h e
steps s m w (Model.OnTime (Model.MarkKeep i)) L S Z B laid h e N = mark_keep-sim s m w S Z laid h i e
steps s m w (Model.OnTime (Model.MarkRelease i)) L S Z B laid h e N = mark_release-sim s m w S Z laid h i e
steps s m w (Model.ReadEnter g) L S Z B laid h e N = read_enter-sim s m w S Z laid h g e
steps s m w (Model.ReadStand g c) L S Z B laid h e N = read_stand-sim s m w g c S Z laid h e N
steps s m w (Model.GetShow r) L S Z B laid h e N = get_show-sim s m w S Z laid h r e
