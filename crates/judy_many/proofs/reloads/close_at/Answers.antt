use Rattle.std.proofs.Common.{[], ◌∷◌, ◌∙◌, ap, inl, inr, refl, subst, sym}
use Rattle.std.specs.Prelude.{option_map}
use Rattle.judy_many.specs.Changes.{SlotGone}
use Rattle.judy_many.specs.Lives.{view_of}
use Rattle.judy_many.specs.Nets.{DidLog}
use Rattle.judy_many.specs.Nets.Act.{Closed}
use Rattle.judy_many.specs.Stories.Phase.{Sweeps}
use Rattle.judy_many.specs.Stories.Moment.{Did}
use Rattle.judy_many.specs.declared.network.How.TheVariants as how
use Rattle.judy_many.proofs.OneSlot.{did_gone, did_none, did_stay}
use Rattle.judy_many.proofs.Looking.{closed_left, open_none, open_stay}
use Rattle.judy_many.proofs.Living.{no_log}
use Rattle.judy_many.proofs.Telling.{piece_none, stays_none}
use Rattle.judy_many.proofs.reloads.close_at.Goals as goal

pub returns-in_default-clause-did : goal.returns-in_default-clause-did
returns-in_default-clause-did g c = (
  [],
  no_log _,
  refl,
  subst (λ s. SlotGone (option_map (λ b. view_of g.S.Served.who g.N.Network.number b.value) s) []) (sym (sym c.take.ensures.value ∙ c.in_default.is)) refl,
  λ limits e. did_none (λ b. view_of g.S.Served.who g.N.Network.number b.value) limits Sweeps c.args.slot.now c.take.new.self (sym c.take.ensures.value ∙ c.in_default.is) c.take.ensures.after,
  open_none (λ b. view_of g.S.Served.who g.N.Network.number b.value) c.args.slot.now c.take.new.self (sym c.take.ensures.value ∙ c.in_default.is) c.take.ensures.after,
)

pub returns-then-is_gone-clause-did : goal.returns-then-is_gone-clause-did
returns-then-is_gone-clause-did g c = (
  Did (Closed (g.N.Network.number c.in-Some.client.value.connection) how.Gone) ∷ [],
  subst (λ n. DidLog (g.N.Network.log c.args.network.now) (Closed n how.Gone ∷ []) (g.N.Network.log c.close.new.self))
      (ap (λ x. g.N.Network.number x.connection) c.deref_mut.ensures.value) c.close.ensures,
  refl,
  (
      let (who, is) = c.is_gone.ensures.gone c.if-is_gone.true in
      subst (λ s. SlotGone (option_map (λ b. view_of g.S.Served.who g.N.Network.number b.value) s) (Did (Closed (g.N.Network.number c.in-Some.client.value.connection) how.Gone) ∷ [])) c.in-Some.ensures.value
      (inr (refl, who, ap (λ x. option_map g.S.Served.who x.session.speaker) (sym c.deref.ensures) ∙ is))
      ),
  λ limits e.
      let (who, is) = c.is_gone.ensures.gone c.if-is_gone.true in
      did_gone (λ b. view_of g.S.Served.who g.N.Network.number b.value) limits Sweeps c.args.slot.now c.take.new.self c.in-Some.client who
      (ap (λ x. option_map g.S.Served.who x.session.speaker) (sym c.deref.ensures) ∙ is) e c.in-Some.ensures.value c.take.ensures.after,
  closed_left (λ b. view_of g.S.Served.who g.N.Network.number b.value) c.args.slot.now c.take.new.self (Did (Closed (g.N.Network.number c.in-Some.client.value.connection) how.Gone) ∷ []) c.take.ensures.after,
)

pub returns-clause-did : goal.returns-clause-did
returns-clause-did g c = (
  [],
  no_log _,
  refl,
  subst (λ s. SlotGone (option_map (λ b. view_of g.S.Served.who g.N.Network.number b.value) s) []) c.in-Some.ensures.value (inl refl),
  λ limits e. did_stay (λ b. view_of g.S.Served.who g.N.Network.number b.value) limits Sweeps c.args.slot.now c.in-Some.client (view_of g.S.Served.who g.N.Network.number c.in-Some.client.value) [] c.in-Some.ensures.value refl
      (piece_none _ Sweeps) (stays_none _),
  open_stay (λ b. view_of g.S.Served.who g.N.Network.number b.value) c.args.slot.now c.in-Some.client c.in-Some.ensures.value,
)
