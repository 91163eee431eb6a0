use Rattle.std.proofs.Common.{◌≡◌, ◌+◌, ◌++◌, length, map, ap, sym, ◌∙◌, subst, arith}
use Rattle.std.proofs.lemmas.List.{length-append}
use Rattle.std.specs.FinMap as finite
use Rattle.judy_directory.specs.Rooms.{is_listed, AreOnce}
use Rattle.judy_directory.proofs.Leaving.{has-listed, once-listed}
use Rattle.judy_directory.proofs.names.Names.list.Goals as goal

-- the names are the keys of both lists
named : (c : goal.After-of) → c.of.result ≡ map (λ e. e.0) (c.self.inside.table.entries ++ c.self.inside.kept.items)
named c = c.of.ensures ∙ ap (λ l. map (λ e. e.0) (c.self.inside.table.entries ++ l)) c.as_slice.ensures.value

pub returns-clause-all : goal.returns-clause-all
returns-clause-all c = λ key.
    ap (is_listed key) (named c)
    ∙ sym (has-listed key (c.self.inside.table.entries ++ c.self.inside.kept.items))
    ∙ ap (λ m. finite.contains_key m key) (ap (λ v. v.0) c.self.view_is)

pub returns-clause-once : goal.returns-clause-once
returns-clause-once c =
    let es = c.self.inside.table.entries in
    let fs = c.self.inside.kept.items in
    let many = c.self.invariant.0.many in
    let both : length (es ++ fs) ≡ length es + length fs = length-append es fs in
    subst AreOnce (sym (named c)) (once-listed (es ++ fs) (omega (arith, many, both)))
