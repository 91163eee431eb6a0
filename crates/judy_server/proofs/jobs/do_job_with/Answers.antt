use Rattle.std.proofs.Common.{◌≡◌, ℕ, Bool, List, Option, Some, ap, refl, ◌∙◌, subst}
use Rattle.std.specs.Prelude.{◌||◌, is_some}
use Rattle.judy_many.specs.declared.network.Sync.{Sync}
use Rattle.judy_programs.specs.Hosting.{desks_at}
use Rattle.judy_server.specs.Jobs.{ChecksBy, HostsBy, connections_of, rule_of}
use Rattle.judy_server.proofs.jobs.do_job_with.Goals as goal

pub run-requires-clause-answers : goal.run-requires-clause-answers
run-requires-clause-answers g c = rw c.batch_of-batch.ensures (rw c.in-Run.is at c.requires.written)

pub returns-in-Run : goal.returns-in-Run
returns-in-Run g c =
    let runs = rw c.batch_of-batch.ensures at c.run.ensures.runs in
    rw c.in-Run.is (c.run.result, runs, c.finish.ensures.status, c.finish.ensures.text, refl)

moved : (P : List ℕ → List ℕ → Option (List ℕ) → Option (List ℕ) → ℕ → Bool → Option (List ℕ) → Option Sync → Type 0) (a a' b b' : List ℕ) (w w' v v' : Option (List ℕ)) (n n' : ℕ) (s s' : Bool)
    (d d' : Option (List ℕ)) (r r' : Option Sync) → a ≡ a' → b ≡ b' → w ≡ w' → v ≡ v' → n ≡ n' → s ≡ s' → d ≡ d' → r ≡ r' → P a b w v n s d r → P a' b' w' v' n' s' d' r'
moved P a a' b b' w w' v v' n n' s s' d d' r r' ea eb ew ev en es ed er h =
    subst (λ x. P x b' w' v' n' s' d' r') ea (subst (λ x. P a x w' v' n' s' d' r') eb (subst (λ x. P a b x v' n' s' d' r') ew
    (subst (λ x. P a b w x n' s' d' r') ev (subst (λ x. P a b w v x s' d' r') en
    (subst (λ x. P a b w v n x d' r') es (subst (λ x. P a b w v n s x r') ed (subst (λ x. P a b w v n s d x) er h)))))))

pub returns-else-check : goal.returns-else-check
returns-else-check g c = rw (c.in-Serve.is, c.if-check.false) (
  c.host_by-hosted.result,
  moved (λ a b w v n s d r. HostsBy g.H.Journals.may_have d c.args.secret.now c.in-Serve.reserve c.host_by-hosted.result a b (desks_at w v)
      (record { clients = c.in-Serve.clients; tenant_clients = c.in-Serve.tenant_clients; share = c.in-Serve.share; connections = n; login = Some c.in-Serve.login; idle = c.in-Serve.idle; turn = c.in-Serve.turn; status = s; journal = r })
      (g.H.Network.log c.args.system.now) (g.H.Network.log c.host_by-hosted.new.system))
      c.as_str-file.result.now c.in-Serve.config c.as_str-path.result.now c.in-Serve.socket _ c.in-Serve.status _ c.in-Serve.control
      c.connections_of.result (connections_of c.in-Serve.connections) c.has_desk.result (is_some c.in-Serve.status || is_some c.in-Serve.control)
      _ c.in-Serve.journal c.rule_of.result (rule_of c.in-Serve.journal c.in-Serve.sync)
      (c.as_str-file.ensures.value ∙ c.config.view_is) (c.as_str-path.ensures.value ∙ c.socket.view_is) c.text_of-watch.ensures c.text_of-command.ensures
      c.connections_of.ensures c.has_desk.ensures
      c.text_of-directory.ensures (c.rule_of.ensures ∙ ap (λ d. rule_of d c.in-Serve.sync) c.text_of-directory.ensures)
      c.host_by-hosted.ensures,
  c.finish_hosted-in-Serve.ensures.status,
  c.finish_hosted-in-Serve.ensures.text,
  refl,
)

checked : (P : List ℕ → Option (List ℕ) → Type 0) (a a' : List ℕ) (d d' : Option (List ℕ)) → a ≡ a' → d ≡ d' → P a d → P a' d'
checked P a a' d d' ea ed h = subst (λ x. P x d') ea (subst (λ x. P a x) ed h)

pub returns-then-check : goal.returns-then-check
returns-then-check g c = rw (c.in-Serve.is, c.if-check.true) (
  c.check_by-looked.result,
  checked (λ a d. ChecksBy g.H.Journals.may_have d c.args.secret.now c.in-Serve.reserve c.check_by-looked.result a (g.H.Network.log c.args.system.now)
      (g.H.Network.log c.check_by-looked.new.system))
      c.as_str-file.result.now c.in-Serve.config _ c.in-Serve.journal
      (c.as_str-file.ensures.value ∙ c.config.view_is) c.text_of-directory.ensures c.check_by-looked.ensures,
  c.finish_hosted.ensures.status,
  c.finish_hosted.ensures.text,
  refl,
)
