use Rattle.std.proofs.Common.{◌≡◌, ◌≤◌, ◌++◌, ◌+◌, ◌∷◌, [], ℕ, List, length, ap, subst, refl, ◌∙◌, arith}
use Rattle.std.specs.Prelude.{IsTrue, codes}
use Rattle.std.proofs.lemmas.List.{length-append}
use Rattle.judy_model.proofs.lemmas.TestLemmas.{and_left}
use Rattle.std.specs.Prelude.{nat_le}
use Rattle.std.specs.List.{list_all}
use Rattle.judy_model.specs.Stream.{lines_of}
use Rattle.judy_journal.specs.Journals.{is_commit, is_record, joined, numbered, sum_after, sum_of}
use Rattle.judy_journal.specs.Writes.{Writing, commit_text, ended, size_with}
use Rattle.judy_journal.proofs.Pushing.{Followed, followed}
use Rattle.judy_journal.proofs.Stepping.{sum_is}
use Rattle.judy_journal.proofs.Writing.{text_of}
use Rattle.judy_journal.proofs.writer.Writer.finish.Goals as goal

-- the lines behind the records
behind : (body note : List ℕ) → Rattle.judy_model.specs.Stream.rest_of body ≡ [] → IsTrue (is_commit (lines_of body)) → Rattle.judy_model.specs.Stream.rest_of note ≡ []
    → IsTrue (list_all is_record (lines_of note)) → length body + length note ≤ 16282 → Followed body note
behind body note none commit none' records fits =
    followed body note none none' (and_left (list_all is_record (lines_of body)) (nat_le (length (joined (lines_of body))) 16282) commit) records fits

pub overflow_add-self-inside : goal.overflow_add-self-inside
overflow_add-self-inside c =
    let f = behind c.self.inside.body.items c.args.note.now c.self.invariant.0 c.self.invariant.2 c.requires.whole c.requires.records
    (omega (arith, c.as_slice-body.ensures.fits, ap length c.as_slice-body.ensures.value, c.requires.short)) in
    omega (arith, f.few, c.self.invariant.1, c.requires.lines, c.as_slice-body.ensures.fits, ap length c.as_slice-body.ensures.value, c.requires.short)

pub returns-clause-commit : goal.returns-clause-commit
returns-clause-commit c =
    let f = behind c.self.inside.body.items c.args.note.now c.self.invariant.0 c.self.invariant.2 c.requires.whole c.requires.records
    (omega (arith, c.as_slice-body.ensures.fits, ap length c.as_slice-body.ensures.value, c.requires.short)) in
    subst (λ w. IsTrue (is_commit (w.records ++ lines_of c.args.note.now))) c.self.view_is f.commit

pub returns-clause-ended : goal.returns-clause-ended
returns-clause-ended c =
    let body = c.self.inside.body.items in
    let note = c.args.note.now in
    let f = behind body note c.self.invariant.0 c.self.invariant.2 c.requires.whole c.requires.records
    (omega (arith, c.as_slice-body.ensures.fits, ap length c.as_slice-body.ensures.value, c.requires.short)) in
    let sum = c.self.inside.sum in
    let lines = lines_of body ++ lines_of note in
    let shown : Writing = record {
      segment = c.self.inside.segment;
      sum = sum;
      size = c.self.inside.size;
      synced = c.self.inside.synced;
      records = lines;
      text = c.self.inside.text.items;
    } in
    let sum_body : c.put_commit-self-inside.result ≡ sum_of sum (body ++ note) =
    c.put_commit-self-inside.ensures.sum ∙ ap (λ b. sum_of sum (b ++ note)) c.as_slice-body.ensures.value in
    let sum_to : c.put_commit-self-inside.result ≡ sum_after sum lines =
    sum_is sum (body ++ note) (body ++ note) c.put_commit-self-inside.result f.rest refl sum_body ∙ ap (sum_after sum) f.lines in
    let count : c.self.inside.count + c.args.lines ≡ length (lines_of (body ++ note)) =
    omega (arith, c.self.invariant.1, c.requires.lines, ap length f.lines, length-append (lines_of body) (lines_of note)) in
    let text : c.put_commit-self-inside.new.text.items ≡ commit_text sum lines =
    text_of sum (body ++ note) c.put_commit-self-inside.result c.put_commit-self-inside.new.text.items (c.self.inside.count + c.args.lines)
    f.rest count sum_body
    (c.put_commit-self-inside.ensures.text
    ∙ ap (λ b. (b ++ note) ++ (numbered (codes "# ") (c.self.inside.count + c.args.lines) c.put_commit-self-inside.result ++ 10 ∷ [])) c.as_slice-body.ensures.value)
    ∙ ap (commit_text sum) f.lines in
    let size : c.saturating_add-self-inside.result ≡ size_with c.self.inside.size (length (commit_text sum lines)) =
    c.saturating_add-self-inside.ensures ∙ ap (size_with c.self.inside.size) (c.len.ensures.value ∙ ap length text) in
    let with_sum : List ℕ → Writing =
    λ s. record shown {
      sum = s;
      size = c.saturating_add-self-inside.result;
      records = lines_of c.clear.new.self.items;
      text = c.put_commit-self-inside.new.text.items;
    } in
    let with_size : ℕ → Writing =
    λ n. record shown {
      sum = sum_after sum lines;
      size = n;
      records = lines_of c.clear.new.self.items;
      text = c.put_commit-self-inside.new.text.items;
    } in
    let with_body : List ℕ → Writing =
    λ b. record shown {
      sum = sum_after sum lines;
      size = size_with c.self.inside.size (length (commit_text sum lines));
      records = lines_of b;
      text = c.put_commit-self-inside.new.text.items;
    } in
    let with_text : List ℕ → Writing =
    λ t. record shown {
      sum = sum_after sum lines;
      size = size_with c.self.inside.size (length (commit_text sum lines));
      records = [];
      text = t;
    } in
    ap with_sum sum_to ∙ ap with_size size ∙ ap with_body c.clear.ensures ∙ ap with_text text
    ∙ ap (λ w. ended (record w { records = w.records ++ lines_of note })) c.self.view_is
