use Rattle.std.proofs.Common.{◌%◌, true, ◌&&◌, ap, refl}
use Rattle.judy_tree.proofs.lemmas.Joins.{is_less}
use Rattle.judy_tree.proofs.Forks.{fork-bytes, fork-low, fork-high, forks, lower-byte}
use Rattle.judy_tree.proofs.fork.fork.Goals as goal

pub returns-then-here-there-clause-forks : goal.returns-then-here-there-clause-forks
returns-then-here-there-clause-forks c =
    let there = fork-bytes c.args.level c.prefix_of-prefix.result c.args.one c.args.other c.requires.level c.ranges.one.fits
    c.ranges.other.fits c.prefix_of-prefix.ensures.head c.requires.agree in
    forks _ _ c.args.level c.args.population (c.args.one, c.args.node) (c.args.other, c.args.made) _ c.make.result
    c.make.ensures.branch c.make.ensures.frame c.make.ensures.unchanged c.make.ensures.refusals
    (fork-low _ c.args.level c.prefix_of-prefix.result c.args.one c.args.other c.args.population _ _ c.args.node c.args.made refl
    (ap (λ z. z % 256) c.head.ensures) (ap (λ z. z % 256) c.head-2.ensures) c.if-here-there.true c.prefix_of-prefix.ensures.head there)

pub make-requires-2-clause-rising : goal.make-requires-2-clause-rising
make-requires-2-clause-rising c =
    let there = fork-bytes c.args.level c.prefix_of-prefix.result c.args.one c.args.other c.requires.level c.ranges.one.fits
    c.ranges.other.fits c.prefix_of-prefix.ensures.head c.requires.agree in
    let less = lower-byte c.args.level c.prefix_of-prefix.result c.args.one c.args.other _ _ c.head.ensures c.head-2.ensures
    c.prefix_of-prefix.ensures.head there c.requires.differ c.if-here-there.false in
    ap (λ t. (t && true) && true) (is_less _ _ less)

pub returns-clause-forks : goal.returns-clause-forks
returns-clause-forks c =
    let there = fork-bytes c.args.level c.prefix_of-prefix.result c.args.one c.args.other c.requires.level c.ranges.one.fits
    c.ranges.other.fits c.prefix_of-prefix.ensures.head c.requires.agree in
    let less = lower-byte c.args.level c.prefix_of-prefix.result c.args.one c.args.other _ _ c.head.ensures c.head-2.ensures
    c.prefix_of-prefix.ensures.head there c.requires.differ c.if-here-there.false in
    forks _ _ c.args.level c.args.population (c.args.one, c.args.node) (c.args.other, c.args.made) _ c.make-2.result
    c.make-2.ensures.branch c.make-2.ensures.frame c.make-2.ensures.unchanged c.make-2.ensures.refusals
    (fork-high _ c.args.level c.prefix_of-prefix.result c.args.one c.args.other c.args.population _ _ c.args.node c.args.made refl
    (ap (λ z. z % 256) c.head.ensures) (ap (λ z. z % 256) c.head-2.ensures) less c.prefix_of-prefix.ensures.head there)
