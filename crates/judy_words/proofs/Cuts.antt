-- Removals one after another, and an absent index that is inserted.
use Rattle.std.proofs.Common.{◌≡◌, ◌+◌, ◌∙◌, ℕ, zero, suc, Bool, true, false, List, Option, Some, None, refl, sym, ap}
use Rattle.judy_arena.specs.Blocks.{Blocks}
use Rattle.judy_arena.specs.Frame.{Frame, holds}
use Rattle.judy_arena.proofs.lemmas.FrameLaws.{frame-then, joint}
use Rattle.judy_model.specs.Contents.{Entries, IsWordArray, word_order, value_of}
use Rattle.judy_model.proofs.lemmas.EntryLemmas.{same-entry}
use Rattle.judy_model.specs.Tenant.{Lack, Shown, cut_from, fill_at, insert_over, keep_over, lack_reply, pop_over, shown_reply, value_or_null}
use Rattle.judy_model.specs.Tenant.Reports.{ReportsNew}
use Rattle.judy_model.specs.declared.calls.Given.TheVariants.{Nothing}
use Rattle.judy_model.specs.declared.replies.Reply.{Reply}
use Rattle.judy_model.specs.declared.replies.Reply.TheVariants as reply

-- two changes of one array in a row are one
pub frame_on : (a b c : Blocks) (o m n : List ℕ) → Frame a b o m → Frame b c m n → Frame a c o n
frame_on a b c o m n f g = frame-then a b c o m m n o n f g (λ q. by (holds q o) (holds q m)) (λ q. by (holds q n) (holds q m))
  where
    by : (x y : Bool) → x ≡ joint x y y
    by true y = refl
    by false true = refl
    by false false = refl

-- ---- removals

module _ (find : Entries ℕ → Option (ℕ × ℕ)) (show : ℕ × ℕ → Shown) (lack : Lack) where
  -- an entry that is removed is one of those that are cut
  pub cut_goes_on : (done n : ℕ) (l after : Entries ℕ) (r : Reply) → pop_over word_order l show lack (find l) ≡ (r, after) → (r ≡ lack_reply lack → ⊥)
      → cut_from word_order find done (suc n) l (find l) ≡ cut_from word_order find (done + 1) n after (find after)
  cut_goes_on done n l after r step some = by (find l) step
    where
      by : (found : Option (ℕ × ℕ)) → pop_over word_order l show lack found ≡ (r, after)
          → cut_from word_order find done (suc n) l found ≡ cut_from word_order find (done + 1) n after (find after)
      by None step = absurd (some (sym (ap (λ p. p.0) step)))
      by (Some e) step = ap (λ es. cut_from word_order find (done + 1) n es (find es)) (ap (λ p. p.1) step)

  -- if there is none, nothing more is cut
  pub cut_ends : (done n : ℕ) (l after : Entries ℕ) → ((e : ℕ × ℕ) → shown_reply (show e) ≡ lack_reply lack → ⊥)
      → pop_over word_order l show lack (find l) ≡ (lack_reply lack, after)
      → cut_from word_order find done n l (find l) ≡ (done, after)
  cut_ends done n l after apart step = by (find l) n step
    where
      by : (found : Option (ℕ × ℕ)) (n : ℕ) → pop_over word_order l show lack found ≡ (lack_reply lack, after)
          → cut_from word_order find done n l found ≡ (done, after)
      by None zero step = ap (λ es. (done, es)) (ap (λ p. p.1) step)
      by None (suc n) step = ap (λ es. (done, es)) (ap (λ p. p.1) step)
      by (Some e) n step = absurd (apart e (ap (λ p. p.0) step))

-- ---- an absent index

-- filled as it is kept
pub filled_kept : (l after : Entries ℕ) (k v : ℕ) (stays : Option ℕ) → keep_over word_order true l k v (value_of word_order l k) ≡ (value_or_null stays, after)
    → fill_at word_order true l k k v (value_of word_order l k) ≡ (reply.Index k, after)
filled_kept l after k v stays = by (value_of word_order l k)
  where
    by : (had : Option ℕ) → keep_over word_order true l k v had ≡ (value_or_null stays, after) → fill_at word_order true l k k v had ≡ (reply.Index k, after)
    by (Some w) is = ap (λ es. (reply.Index k, es)) (ap (λ p. p.1) is)
    by None is = ap (λ es. (reply.Index k, es)) (ap (λ p. p.1) is)

-- and as it is set
pub filled_set : (l after : Entries ℕ) (k : ℕ) (new : Bool) → IsWordArray l
    → insert_over word_order true l k Nothing ReportsNew (value_of word_order l k) ≡ (reply.Int new, after)
    → fill_at word_order true l k k 0 (value_of word_order l k) ≡ (reply.Index k, after)
filled_set l after k new words = by (value_of word_order l k) refl
  where
    by : (had : Option ℕ) → value_of word_order l k ≡ had → insert_over word_order true l k Nothing ReportsNew had ≡ (reply.Int new, after)
        → fill_at word_order true l k k 0 had ≡ (reply.Index k, after)
    by (Some w) at is = ap (λ es. (reply.Index k, es)) (same-entry l k w words at ∙ ap (λ p. p.1) is)
    by None at is = ap (λ es. (reply.Index k, es)) (ap (λ p. p.1) is)
