use Rattle.std.proofs.Common.{◌≡◌, ◌∙◌, ap, sym, subst, refl, Some, None}
use Rattle.judy_arena.specs.Blocks.{count_up}
use Rattle.judy_refs.specs.References.{number_of, block_of}
use Rattle.judy_bytes.specs.Buckets.{IsBucket}
use Rattle.judy_bytes.specs.BytesArrays.{first_at}
use Rattle.judy_bytes.proofs.Changes.{map-found, still-words, still-there, still-absent, changed, taken-back}
use Rattle.judy_bytes.proofs.array.JudyHS.add.Goals as goal

pub prepend-requires-clause-absent : goal.prepend-requires-clause-absent
prepend-requires-clause-absent g c =
    let at = c.requires.first ∙ ap (first_at c.args.arena.now.blocks c.args.self.now.words) (sym c.requires.hash) in
    sym (map-found g.H.KeyHash.hashed c.args.arena.now.blocks c.args.self.now.words c.args.first c.args.hash c.args.key.now
    c.requires.hash c.requires.array at) ∙ c.requires.absent

pub lead-self-requires-clause-array : goal.lead-self-requires-clause-array
lead-self-requires-clause-array g c =
    let at = c.requires.first ∙ ap (first_at c.args.arena.now.blocks c.args.self.now.words) (sym c.requires.hash) in
    still-words g.H.KeyHash.hashed c.args.arena.now.blocks c.prepend.new.arena.blocks c.args.self.now.words c.args.first
    c.args.hash c.in_ok-bucket.bucket c.args.key.now (Some c.args.value) c.requires.hash c.requires.array at
    c.in_ok-bucket.ensures.chain

pub lead-self-requires-clause-there : goal.lead-self-requires-clause-there
lead-self-requires-clause-there g c =
    let at = c.requires.first ∙ ap (first_at c.args.arena.now.blocks c.args.self.now.words) (sym c.requires.hash) in
    still-there g.H.KeyHash.hashed c.args.arena.now.blocks c.prepend.new.arena.blocks c.args.self.now.words c.args.first
    c.args.hash c.in_ok-bucket.bucket c.args.key.now (Some c.args.value) c.requires.hash c.requires.array at
    c.in_ok-bucket.ensures.chain
    (λ e. c.if-word-ne0.true (c.word.ensures ∙ e))

pub returns-then-word-ne0-clause-array : goal.returns-then-word-ne0-clause-array
returns-then-word-ne0-clause-array g c =
    let at = c.requires.first ∙ ap (first_at c.args.arena.now.blocks c.args.self.now.words) (sym c.requires.hash) in
    changed g.H.KeyHash.hashed c.args.arena.now.blocks c.prepend.new.arena.blocks c.args.self.now.words c.args.first
    c.args.hash c.in_ok-bucket.bucket c.args.key.now (Some c.args.value) c.requires.hash c.requires.array at
    c.in_ok-bucket.ensures.chain
    c.lead-self.new.arena.blocks c.lead-self.result c.lead-self.ensures.words

pub enter-requires-clause-array : goal.enter-requires-clause-array
enter-requires-clause-array g c =
    let at = c.requires.first ∙ ap (first_at c.args.arena.now.blocks c.args.self.now.words) (sym c.requires.hash) in
    still-words g.H.KeyHash.hashed c.args.arena.now.blocks c.prepend.new.arena.blocks c.args.self.now.words c.args.first
    c.args.hash c.in_ok-bucket.bucket c.args.key.now (Some c.args.value) c.requires.hash c.requires.array at
    c.in_ok-bucket.ensures.chain

pub enter-requires-clause-absent : goal.enter-requires-clause-absent
enter-requires-clause-absent g c =
    let at = c.requires.first ∙ ap (first_at c.args.arena.now.blocks c.args.self.now.words) (sym c.requires.hash) in
    still-absent g.H.KeyHash.hashed c.args.arena.now.blocks c.prepend.new.arena.blocks c.args.self.now.words c.args.first
    c.args.hash c.in_ok-bucket.bucket c.args.key.now (Some c.args.value) c.requires.hash c.requires.array at
    c.in_ok-bucket.ensures.chain
    (sym c.word.ensures ∙ c.if-word-ne0.false)

pub enter-requires-clause-some : goal.enter-requires-clause-some
enter-requires-clause-some g c = λ e. none-some (ap block_of (sym e) ∙ c.in_ok-bucket.ensures.fresh.named)
  where
    none-some : None ≡ Some (number_of c.in_ok-bucket.bucket) → ⊥
    none-some h = cc

pub returns-in-Ok-clause-array : goal.returns-in-Ok-clause-array
returns-in-Ok-clause-array g c =
    let at = c.requires.first ∙ ap (first_at c.args.arena.now.blocks c.args.self.now.words) (sym c.requires.hash) in
    changed g.H.KeyHash.hashed c.args.arena.now.blocks c.prepend.new.arena.blocks c.args.self.now.words c.args.first
    c.args.hash c.in_ok-bucket.bucket c.args.key.now (Some c.args.value) c.requires.hash c.requires.array at
    c.in_ok-bucket.ensures.chain
    c.enter.new.arena.blocks c.in-Ok.words c.in-Ok.ensures.words

pub release-requires-clause-bucket : goal.release-requires-clause-bucket
release-requires-clause-bucket g c = subst (λ b. IsBucket b (number_of c.in_ok-bucket.bucket)) (sym c.in-Err.ensures.blocks) c.in_ok-bucket.ensures.fresh.bucket

pub release-requires-clause-named : goal.release-requires-clause-named
release-requires-clause-named g c = c.in_ok-bucket.ensures.fresh.named

pub returns-in-Err-clause-refused : goal.returns-in-Err-clause-refused
returns-in-Err-clause-refused g c = record {
  blocks = taken-back c.args.arena.now.blocks c.prepend.new.arena.blocks c.enter.new.arena.blocks c.release.new.arena.blocks
      c.in_ok-bucket.bucket c.in_ok-bucket.ensures.fresh c.in-Err.ensures.blocks c.release.ensures.blocks;
  word = refl;
  counted = c.release.ensures.memory.refusals ∙ c.in-Err.ensures.refusals ∙ ap count_up c.in_ok-bucket.ensures.refusals;
}
