use Rattle.std.proofs.Common.{◌+◌, length, take, refl, ap, ◌∙◌}
use lib.Seq.{paste}
use Rattle.judy_leaf.specs.Linear.{linear_size}
use Rattle.judy_leaf.proofs.LinearLaws.{made, written-set, written-map}
use Rattle.judy_leaf.proofs.linear.fill.Goals as goal

pub returns-then-values : goal.returns-then-values
returns-then-values c =
    let r = made c.args.values c.copy_in-then-values.new.words c.args.keys.now c.args.vals.now
    (linear_size c.args.values (length c.args.keys.now)) c.requires.some c.requires.few c.requires.same c.requires.rising
    (λ i. (c.type_inv.keys i).fits) (λ i. (c.type_inv.vals i).fits) refl
    (ap (take (linear_size c.args.values (length c.args.keys.now)))
    (c.copy_in-then-values.ensures ∙ ap (λ a. paste a (1 + length c.args.keys.now) c.args.vals.now (length c.args.vals.now))
    c.copy_in.ensures)
    ∙ written-map c.args.values c.args.words.now c.args.keys.now c.args.vals.now c.if-values.true c.requires.same c.requires.room) in
    record { leaf = r.0; entries = r.1; count = r.2 }

pub returns-else-values : goal.returns-else-values
returns-else-values c =
    let r = made c.args.values c.copy_in.new.words c.args.keys.now c.args.vals.now
    (linear_size c.args.values (length c.args.keys.now)) c.requires.some c.requires.few c.requires.same c.requires.rising
    (λ i. (c.type_inv.keys i).fits) (λ i. (c.type_inv.vals i).fits) refl
    (ap (take (linear_size c.args.values (length c.args.keys.now))) c.copy_in.ensures
    ∙ written-set c.args.values c.args.words.now c.args.keys.now c.args.vals.now c.if-values.false c.requires.room) in
    record { leaf = r.0; entries = r.1; count = r.2 }
