use Rattle.std.proofs.Common.{◌≡◌, ℕ, List, [], ◌∷◌, true, false, length, refl, inl, inr, sym, ◌∙◌, arith}
use Rattle.std.proofs.lemmas.Bool.Decides.{nat_tests}
use Rattle.std.specs.Prelude.{◌==◌, ◌≢◌}
use Rattle.judy_many.specs.Rules.{rules_of}
use Rattle.judy_programs.proofs.Begins.{none_yet, serves, serving}
use Rattle.judy_programs.proofs.socket.serve_on.Goals as goal

is_some : (xs : List ℕ) → (length xs == 0) ≡ false → xs ≢ []
is_some [] e h = cc
is_some (x ∷ xs) e h = cc

is_none : (xs : List ℕ) → (length xs == 0) ≡ true → xs ≡ []
is_none [] e = refl
is_none (x ∷ xs) e = let none : length (x ∷ xs) ≡ 0 = grind (arith, nat_tests) in absurd (omega (arith, none))

pub returns : goal.returns
returns g c =
    let rules = rules_of g.S.Served.made g.S.Served.seen g.S.Shows.noted g.S.Shows.status g.S.Shows.changed g.S.Shows.caps g.S.Shows.leavers in
    rw c.hosted_by.ensures (serves rules c.args.socket.now _ _ _ c.serve_many-ending.result _ _ _ _ (serving rules c.args.socket.now _ _ _ _ _ _ _ _ _ _
    (is_some c.args.socket.now (sym c.is_empty.ensures ∙ c.if-is_empty.false)) c.if-not-bind.ensures (rw c.if-not-watch_on.false at c.watch_on.ensures) c.serve_many-ending.ensures))

pub returns-then-not-watch_on : goal.returns-then-not-watch_on
returns-then-not-watch_on g c = inl (inr (inr (g.H.Network.log c.bind.new.self, is_some c.args.socket.now (sym c.is_empty.ensures ∙ c.if-is_empty.false), c.if-not-bind.ensures, c.if-not-watch_on.ensures)))

pub returns-then-not-bind : goal.returns-then-not-bind
returns-then-not-bind g c = inl (inr (inl (is_some c.args.socket.now (sym c.is_empty.ensures ∙ c.if-is_empty.false), c.if-not-bind.ensures)))

pub returns-then-is_empty : goal.returns-then-is_empty
returns-then-is_empty g c = inl (inl (is_none c.args.socket.now (sym c.is_empty.ensures ∙ c.if-is_empty.true), none_yet _))
