use Rattle.std.proofs.Common.{◌≡◌, ◌≤◌, ◌++◌, ◌∙◌, ℕ, List, ap, sym, length, take, arith}
use Rattle.std.specs.Prelude.{◌-◌}
use Rattle.std.proofs.lemmas.List.{length-append, take_all}
use Rattle.judy_journal.specs.Noting.{Noting, held}
use Rattle.judy_journal.specs.Writes.{size_with}
use Rattle.judy_journal.proofs.Noticing.{take_over}
use Rattle.judy_journal.proofs.notes.Notes.hold.Goals as goal

pub returns-then-chunk-room : goal.returns-then-chunk-room
returns-then-chunk-room c =
    let shown : ℕ → List ℕ → Noting =
    λ taken line. record {
      segment = c.self.inside.segment;
      seen = record { place = c.self.inside.place; surest = c.self.inside.surest };
      taken = taken;
      line = line;
    } in
    let all = c.self.inside.line.items ++ c.args.chunk.now in
    let line : c.put.new.line.items ≡ take 40 all = c.put.ensures ∙ sym (take_all 40 all (omega (arith, length-append c.self.inside.line.items c.args.chunk.now, c.len.ensures.fits, c.len.ensures.value, c.saturating_sub-room.ensures, c.if-chunk-room.true))) in
    ap (λ t. shown t c.put.new.line.items) c.saturating_add-self-inside.ensures
    ∙ ap (shown (size_with c.self.inside.taken (length c.args.chunk.now))) line ∙ ap (held c.args.chunk.now) c.self.view_is

pub returns-else-chunk-room : goal.returns-else-chunk-room
returns-else-chunk-room c =
    let shown : ℕ → List ℕ → Noting =
    λ taken line. record {
      segment = c.self.inside.segment;
      seen = record { place = c.self.inside.place; surest = c.self.inside.surest };
      taken = taken;
      line = line;
    } in
    let before = c.self.inside.line.items in
    let small : length before ≤ 40 = omega (arith, c.len.ensures.fits, c.len.ensures.value) in
    let room : c.saturating_sub-room.result ≡ 40 - length before = c.saturating_sub-room.ensures ∙ ap (λ n. 40 - n) c.len.ensures.value in
    let line : c.put-else-chunk-room.new.line.items ≡ take 40 (before ++ c.args.chunk.now) =
    c.put-else-chunk-room.ensures ∙ ap (λ v. before ++ v) (c.split_at.ensures.front ∙ ap (λ n. take n c.args.chunk.now) room)
    ∙ sym (take_over 40 before c.args.chunk.now small) in
    ap (λ t. shown t c.put-else-chunk-room.new.line.items) c.saturating_add-self-inside.ensures
    ∙ ap (shown (size_with c.self.inside.taken (length c.args.chunk.now))) line ∙ ap (held c.args.chunk.now) c.self.view_is
