-- How the calls of a root answer as the calls of a set do.
use Rattle.std.proofs.Common.{◌≡◌, ℕ, Bool, true, false, Option, Some, None, not, unwrap_or, ap, sym, ◌∙◌, refl, subst}
use Rattle.std.specs.Prelude.{is_none}
use Rattle.judy_arena.specs.Blocks.{Blocks}
use Rattle.judy_model.specs.Contents.{Entries, IsWordArray, word_order, value_of, with_entry}
use Rattle.judy_model.proofs.lemmas.EntryLemmas.{same-entry}
use Rattle.judy_model.specs.Tenant.Effect.{Keep}
use Rattle.judy_model.specs.Tenant.{insert, insert_over, keep_over, effect_step, value_or_null}
use Rattle.judy_model.specs.Tenant.Reports.{ReportsNew}
use Rattle.judy_model.specs.declared.calls.Given.TheVariants.{Nothing}
use Rattle.judy_model.specs.declared.replies.Reply.{Reply}
use Rattle.judy_model.specs.declared.replies.Reply.TheVariants as reply
use Rattle.judy_tree.specs.Laws.{ContentIsSound}
use Rattle.judy_tree.specs.Root.{IsRoot, entries}
use Rattle.judy_words.specs.LongArrays.{long_numbers}

-- an index is inserted into a set with the value 0, or keeps its value
inserted : (l : Entries ℕ) (x : ℕ) (had : Option ℕ)
    → insert_over word_order true l x Nothing ReportsNew had ≡ (reply.Int (is_none had), with_entry word_order l x (unwrap_or had 0))
inserted l x None = refl
inserted l x (Some v) = refl

-- what a test for None answers
pub none-is : (t b : Bool) → t ≡ not b → b ≡ not t
none-is t true e = sym (ap not e)
none-is t false e = sym (ap not e)

pub set-answer : (b : Blocks) (i w x : ℕ) (after : Entries ℕ) (new : Bool) → i ≡ w
    → new ≡ is_none (value_of word_order (entries false b i) x)
    → after ≡ with_entry word_order (entries false b i) x (unwrap_or (value_of word_order (entries false b i) x) 0)
    → insert word_order true (entries false b w) x Nothing ReportsNew ≡ (reply.Int new, after)
set-answer b i w x after new at e is =
    let l = entries false b i in
    ap (λ j. insert word_order true (entries false b j) x Nothing ReportsNew) (sym at)
    ∙ inserted l x (value_of word_order l x) ∙ answered _ _ _ _ (sym e) (sym is)
  where
    answered : (a b : Bool) (l m : Entries ℕ) → a ≡ b → l ≡ m → ◌≡◌ {A = Reply × Entries ℕ} (reply.Int a, l) (reply.Int b, m)
    answered a b l m e f = cc

-- an index that is there keeps its value, and another one is inserted
kept : (l : Entries ℕ) (x v : ℕ) → IsWordArray l → (had : Option ℕ) → value_of word_order l x ≡ had
    → keep_over word_order true l x v had ≡ (value_or_null had, with_entry word_order l x (unwrap_or had v))
kept l x v words None is = refl
kept l x v words (Some w) is = ap (λ es. (reply.Value w, es)) (same-entry l x w words is)

pub kept-answer : ContentIsSound → (b : Blocks) (i w x v : ℕ) (after : Entries ℕ) (had : Option ℕ) → i ≡ w → IsRoot true b w
    → had ≡ value_of word_order (entries true b i) x
    → after ≡ with_entry word_order (entries true b i) x (unwrap_or (value_of word_order (entries true b i) x) v)
    → effect_step word_order true (entries true b w) (Keep x v) ≡ (value_or_null had, after)
kept-answer law b i w x v after had at root e is =
    let l = entries true b i in
    let sound = subst (IsRoot true b) (sym at) root in
    let words = (law true b i l (long_numbers b i) (record { sound = sound; content = refl; blocks = refl })).0 in
    ap (λ j. effect_step word_order true (entries true b j) (Keep x v)) (sym at)
    ∙ kept l x v words (value_of word_order l x) refl ∙ answered _ _ _ _ (ap value_or_null (sym e)) (sym is)
  where
    answered : (r s : Reply) (l m : Entries ℕ) → r ≡ s → l ≡ m → ◌≡◌ {A = Reply × Entries ℕ} (r, l) (s, m)
    answered r s l m e f = cc
