use Rattle.std.proofs.Common.{◌∙◌, ◌++◌, ap, subst, sym}
use Rattle.std.specs.Prelude.{option_map}
use Rattle.judy_protocol.specs.Services.{HasLoggedIn}
use Rattle.judy_many.specs.Rules.{rules_of}
use Rattle.judy_protocol.proofs.Turned.{bare_heard}
use Rattle.judy_many.proofs.Claims.{known_unless, right_of, same_speaker}
use Rattle.judy_many.proofs.Stepping.{Steps-line}
use Rattle.judy_many.proofs.session.run_line.Goals as goal

pub returns-clause-steps : goal.returns-clause-steps
returns-clause-steps g c =
    let heard = c.hear_line-asked.ensures.heard in
    Steps-line (rules_of g.S.Served.made g.S.Served.seen g.S.Shows.noted g.S.Shows.status g.S.Shows.changed g.S.Shows.caps g.S.Shows.leavers) c.args.chunk.now _ _ c.args.session.now.held _ _ (option_map g.S.Served.who c.run_unless-changed.new.speaker) _ _ c.run_unless-changed.new.service _
    c.args.answers.now.items _ c.run_unless-changed.new.answer.items c.limit_login-session.new.answer.items _ _ _ _ _ c.limit_login-session.result c.is_barred-barred.result c.args.session.now.barred c.args.most _ c.requires.line c.requires.known
    (λ rest h. heard ∙ bare_heard (λ b. b.now) (rest ++ c.args.chunk.now) c.whole_line-line.result (c.whole_line-line.ensures.bare (rest ++ c.args.chunk.now) (c.join_line-joined.ensures.joined rest h)))
    c.clear.ensures c.run_unless-changed.ensures.turn c.is_barred-barred.ensures c.limit_login-session.ensures.crowded c.limit_login-session.ensures.speaker c.limit_login-session.ensures.answer (rw c.as_slice.ensures.value at c.note.ensures)
    (c.append.ensures ∙ ap (λ v. c.args.answers.now.items ++ v) c.as_slice-2.ensures.value) c.asks_to_quit-quit.ensures
    heard (ap (λ s. s.names) (g.met.S.Shows.unseen _ _ _ _ _ c.note.ensures) ∙ c.run_unless-changed.ensures.names) c.note_line.ensures

pub note_line-requires-clause-known : goal.note_line-requires-clause-known
note_line-requires-clause-known g c = subst (λ s. HasLoggedIn s.speakers (option_map g.S.Served.who c.limit_login-session.new.speaker)) (sym (g.met.S.Shows.unseen _ _ _ _ _ c.note.ensures)) (known_unless _ _ _ _ c.limit_login-session.ensures.speaker c.run_unless-changed.ensures.known)

pub returns-clause-logins : goal.returns-clause-logins
returns-clause-logins g c = ap (λ s. s.logins) (g.met.S.Shows.unseen _ _ _ _ _ c.note.ensures) ∙ c.run_unless-changed.ensures.logins

pub returns-clause-speakers : goal.returns-clause-speakers
returns-clause-speakers g c = ap (λ s. s.speakers) (g.met.S.Shows.unseen _ _ _ _ _ c.note.ensures) ∙ c.run_unless-changed.ensures.speakers

pub returns-clause-known : goal.returns-clause-known
returns-clause-known g c = subst (λ s. HasLoggedIn s.speakers (option_map g.S.Served.who c.limit_login-session.new.speaker)) (sym (g.met.S.Shows.unseen _ _ _ _ _ c.note.ensures)) (known_unless _ _ _ _ c.limit_login-session.ensures.speaker c.run_unless-changed.ensures.known)

pub returns-clause-fresh : goal.returns-clause-fresh
returns-clause-fresh g c = λ plain.
    same_speaker _ c.args.most _ _ _ _ _ _ (sym c.is_login-session.ensures ∙ plain) c.run_unless-changed.ensures.turn.speaks c.limit_login-session.ensures.crowded c.limit_login-session.ensures.speaker

pub run_unless-changed-requires-clause-change : goal.run_unless-changed-requires-clause-change
run_unless-changed-requires-clause-change g c = λ e. right_of _ _ (sym c.is_barred-barred.ensures ∙ e)
