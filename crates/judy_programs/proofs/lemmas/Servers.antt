-- What a server asks of the system besides its connections, in the words of docs/PROMISES.md.
--     served-on-socket    the file of the table was opened once, read and closed; then one socket was
--                         made, at the path that was asked for, which is not empty, and the status
--                         socket and the control socket at theirs, if they are wanted
--     served-nobody       without a socket nothing else was asked: the path is empty, or the system
--                         cannot make the socket, or one of the operator's after it
--     served-no-table     a file that gives no service was opened once, read and closed, and nothing
--                         else was asked
use Rattle.std.specs.Prelude.{◌≡◌, ◌≢◌, ◌⊎◌, ℕ, false, List, [], ◌∷◌, None, Option, Some, map}
use Rattle.std.proofs.Common.{inl, inr}
use Rattle.judy_many.specs.Crowds.{HasServedMany}
use Rattle.judy_many.specs.Nets.Act.{Asked}
use Rattle.judy_many.specs.Nets.Step.{Bound, Opened, Shut, Unbound}
use Rattle.judy_many.specs.Rules.{Rules}
use Rattle.judy_many.specs.declared.serve.Ending.{Ending}
use Rattle.judy_many.specs.declared.serve.Limits.{Limits}
use Rattle.judy_protocol.specs.Serving.{MaybeBytes}
use Rattle.judy_table.specs.declared.tenant.Tenant.{Tenant}
use Rattle.judy_programs.specs.Asking.{Log, Logs}
use Rattle.judy_programs.specs.Hosting.{Desks, HasNoService, HasNoSocket, HasServedAll, HavePaths, Watches, watched}
use Rattle.judy_programs.specs.Opening.{HasOpened, IsShut}
use Rattle.judy_programs.specs.declared.socket.Hosted.{Hosted}
use Rattle.judy_programs.proofs.Begins.{logs_then}

module _ {S : Type 0} (is_new : List Tenant → S → Type 0) where
  -- the file was opened once, read and closed, and gives no service for this reason
  pub served-no-table : (how : Hosted) (config : List ℕ) (log log' : Log) → HasNoService is_new how config log log'
      → (left : MaybeBytes) × (left' : MaybeBytes) × IsShut how left left' × Logs log (Opened config left ∷ Shut left' ∷ []) log'
  served-no-table how config log log' h = (h.left, h.left', h.shut, h.asked)

  module _ (rules : Rules S) (config socket : List ℕ) (watch : Desks) (log log' : Log) where
    -- between the opening of the file and the first connection nothing else was asked
    pub served-on-socket : (limits : Limits) (how : Ending) → (h : HasServedAll rules is_new config socket watch limits how log log')
        → (socket ≢ []) × HavePaths watch × Logs log (Opened config h.begun.left ∷ Shut h.begun.left' ∷ Bound socket ∷ watched watch) h.mid
        × HasOpened is_new h.begun.left h.begun.left' h.before × HasServedMany rules limits None how h.mid log' h.before h.after
    served-on-socket limits how h = (
      h.path,
      h.paths,
      logs_then log h.start h.mid (Asked (Opened config h.begun.left) ∷ Asked (Shut h.begun.left') ∷ []) (Asked (Bound socket) ∷ map Asked (watched watch)) h.begun.asked h.asked,
      h.begun.opened,
      h.hosted,
    )

    -- there is a service, and a socket is missing
    pub served-nobody : (h : HasNoSocket rules is_new config socket watch log log')
        → ((socket ≡ []) × Logs log (Opened config h.begun.left ∷ Shut h.begun.left' ∷ []) log')
        ⊎ ((socket ≢ []) × Logs log (Opened config h.begun.left ∷ Shut h.begun.left' ∷ Unbound socket ∷ []) log')
        ⊎ ((bound : Log) × (socket ≢ []) × Logs log (Opened config h.begun.left ∷ Shut h.begun.left' ∷ Bound socket ∷ []) bound × Watches false watch bound log')
    served-nobody h = by h.asked
      where
        by : ((socket ≡ []) × Logs h.start [] log') ⊎ ((socket ≢ []) × Logs h.start (Unbound socket ∷ []) log')
            ⊎ ((bound : Log) × (socket ≢ []) × Logs h.start (Bound socket ∷ []) bound × Watches false watch bound log')
            → ((socket ≡ []) × Logs log (Opened config h.begun.left ∷ Shut h.begun.left' ∷ []) log')
            ⊎ ((socket ≢ []) × Logs log (Opened config h.begun.left ∷ Shut h.begun.left' ∷ Unbound socket ∷ []) log')
            ⊎ ((bound : Log) × (socket ≢ []) × Logs log (Opened config h.begun.left ∷ Shut h.begun.left' ∷ Bound socket ∷ []) bound × Watches false watch bound log')
        by (inl (e, a)) = inl (e, logs_then log h.start log' (Asked (Opened config h.begun.left) ∷ Asked (Shut h.begun.left') ∷ []) [] h.begun.asked a)
        by (inr (inl (e, a))) =
            inr (inl (e, logs_then log h.start log' (Asked (Opened config h.begun.left) ∷ Asked (Shut h.begun.left') ∷ []) (Asked (Unbound socket) ∷ []) h.begun.asked a))
        by (inr (inr (bound, e, a, w))) =
            inr (inr (bound, e, logs_then log h.start bound (Asked (Opened config h.begun.left) ∷ Asked (Shut h.begun.left') ∷ []) (Asked (Bound socket) ∷ []) h.begun.asked a, w))
