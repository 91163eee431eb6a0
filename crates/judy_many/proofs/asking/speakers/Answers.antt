use Rattle.std.proofs.Common.{◌≡◌, ◌∙◌, ◌++◌, [], ◌∷◌, add-one, ap, append-nil, arith, map, sym, take}
use Rattle.std.specs.Prelude.{option_map}
use Rattle.std.proofs.lemmas.List.{map-append, take_all}
use Rattle.judy_many.specs.Lives.{view_of}
use Rattle.judy_many.specs.Present.{speaker_at, speakers_at}
use Rattle.judy_many.proofs.Presence.{speakers_more}
use Rattle.judy_many.proofs.asking.speakers.Goals.{in-Some+in_ok-push, in_default}
use Rattle.judy_many.proofs.asking.speakers.Goals as goal

pub loop-at-preserved : goal.loop-at-preserved
loop-at-preserved g c = record {
  speakers = rw add-one (made ∙ sym (speakers_more (λ b. view_of g.S.Served.who g.N.Network.number b.value) c.args.clients.now.slots.items c.loop-at.at c.index.result.now (omega arith) c.index.ensures));
}
  where
    made : map (option_map g.S.Served.who) c.match-index.speakers.items
        ≡ speakers_at (λ b. view_of g.S.Served.who g.N.Network.number b.value) (take c.loop-at.at c.args.clients.now.slots.items)
        ++ speaker_at (λ b. view_of g.S.Served.who g.N.Network.number b.value) c.index.result.now
    made = elim c.match-index.branch [
      | in-Some+in_ok-push w ↦ ap (λ v. map (option_map g.S.Served.who) v.items) w.speakers-is ∙ ap (map (option_map g.S.Served.who)) w.in_ok-push.ensures.items
          ∙ map-append (option_map g.S.Served.who) c.loop-at.speakers.items _ ∙ ap (λ l. l ++ option_map g.S.Served.who w.deref.result.now.session.speaker ∷ []) c.loop-at.invariant.speakers
          ∙ ap (λ b. speakers_at (λ b. view_of g.S.Served.who g.N.Network.number b.value) (take c.loop-at.at c.args.clients.now.slots.items)
          ++ option_map g.S.Served.who b.session.speaker ∷ []) w.deref.ensures
          ∙ ap (λ s. speakers_at (λ b. view_of g.S.Served.who g.N.Network.number b.value) (take c.loop-at.at c.args.clients.now.slots.items)
          ++ speaker_at (λ b. view_of g.S.Served.who g.N.Network.number b.value) s) (sym w.in-Some.is)
      | in_default w ↦ ap (λ v. map (option_map g.S.Served.who) v.items) w.speakers-is ∙ c.loop-at.invariant.speakers ∙ sym (append-nil _)
          ∙ ap (λ s. speakers_at (λ b. view_of g.S.Served.who g.N.Network.number b.value) (take c.loop-at.at c.args.clients.now.slots.items)
          ++ speaker_at (λ b. view_of g.S.Served.who g.N.Network.number b.value) s) (sym w.in_default.is)
    ]

pub returns : goal.returns
returns g c =
    c.loop-at.invariant.speakers
    ∙ ap (speakers_at (λ b. view_of g.S.Served.who g.N.Network.number b.value)) (take_all c.loop-at.at c.args.clients.now.slots.items (omega (arith, c.len-at-end.ensures)))
