use Rattle.std.proofs.Common.{rules, ◌≡◌, inr, subst, sym, Err, Option, None, Some}
use Rattle.judy_disk.specs.Manifests.{lack_of}
use Rattle.judy_disk.specs.Scans.{ArrangesFrom, lack_in}
use Rattle.judy_disk.specs.declared.manifest.Lack.{Lack}
use Rattle.judy_disk.proofs.scan.Names.arrange_by.Goals as goal

pub returns-in-Some-lack : goal.returns-in-Some-lack
returns-in-Some-lack c =
    let none : lack_of c.args.manifest c.snapshot.result c.args.manifest.last ≡ None = search rules in
    let lacks : lack_in c.args.manifest c.in_ok-found.found ≡ Some c.in-Some-lack.lack = search rules in
    record {
      newest = c.snapshot.result;
      greatest = c.snapshot.ensures;
      by = subst (λ (o : Option Lack). ArrangesFrom o c.args.manifest c.args.self.now.segments.items c.args.self.now.snapshots.items c.args.self.now.torn.items (Err c.lacking-in-Some-lack.result)) (sym none)
          (inr (
            c.in_ok-found.found,
            c.in-Some-lack.lack,
            record { sorted = c.arrange.new.self.segments.items; same = c.arrange.ensures.same; arranged = c.in_ok-found.ensures.arranged },
            lacks,
            c.lacking-in-Some-lack.ensures,
          ));
    }
