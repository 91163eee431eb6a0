-- What a read, the lines and a write do to a client.
use Rattle.std.proofs.Common.{◌≡◌, ◌⊎◌, inl, inr, ℕ, Bool, true, false, ◌||◌, List, [], ◌∷◌, ◌++◌, Option, None, Some, ◌+◌, ◌-◌, ◌≤◌, length, take, drop, arith, sym, ◌∙◌, ap, subst, refl, append_assoc, append-nil}
use Rattle.std.proofs.lemmas.List.{take-append-drop, drop-drop, drop_at, length-drop, length-append}
use Rattle.std.proofs.lemmas.List.Folds.{list_any-append}
use Rattle.judy_model.proofs.lemmas.StreamLemmas.{through_quit-none, served-after_quit}
use Rattle.judy_model.specs.Speakers.{Speaker}
use Rattle.judy_model.specs.Stream.{is_quit, served, through_quit}
use Rattle.judy_protocol.specs.Serving.{asks_to_quit}
use Rattle.judy_protocol.specs.declared.held.Held.{Held}
use Rattle.judy_many.specs.Books.{Journal}
use Rattle.judy_many.specs.Nets.{Act, Acts, DidLog}
use Rattle.judy_many.specs.Rules.{Rules}
use Rattle.judy_many.specs.Sessions.{Turn, lines_in, texts, Steps}
use Rattle.judy_many.specs.Lives.{View, IsLive, IsPart, IsWhole, read_in, read_by, wrote_in, wrote_by, end_well, ends_well}
use Rattle.judy_many.proofs.Stepping.{lines_in-append, texts-append, Speaks-append}

-- ---- answers of the system in a row

pub read_in-append : (a b : List Act) → read_in (a ++ b) ≡ read_in a ++ read_in b
read_in-append [] b = refl
read_in-append (x ∷ a) b = ap (λ v. read_by x ++ v) (read_in-append a b) ∙ sym (append_assoc (read_by x) (read_in a) (read_in b))

pub wrote_in-append : (a b : List Act) → wrote_in (a ++ b) ≡ wrote_in a ++ wrote_in b
wrote_in-append [] b = refl
wrote_in-append (x ∷ a) b = ap (λ v. wrote_by x ++ v) (wrote_in-append a b) ∙ sym (append_assoc (wrote_by x) (wrote_in a) (wrote_in b))

or_assoc : (a b c : Bool) → (a || b) || c ≡ a || (b || c)
or_assoc true b c = refl
or_assoc false b c = refl

pub end_well-append : (a b : List Act) → end_well (a ++ b) ≡ end_well a || end_well b
end_well-append [] b = refl
end_well-append (x ∷ a) b = ap (λ v. ends_well x || v) (end_well-append a b) ∙ sym (or_assoc (ends_well x) (end_well a) (end_well b))

pub both_open : (a b : List Act) → end_well a ≡ false → end_well b ≡ false → end_well (a ++ b) ≡ false
both_open a b h k = end_well-append a b ∙ ap (λ v. v || end_well b) h ∙ k

module _ (did : List Act) (ran : List Turn) (v : View) (h : IsLive did ran v) where
  -- bytes were read, when all others were heard
  pub live_read : (acts : List Act) (bytes : List ℕ) → v.waiting ≡ [] → read_in acts ≡ bytes → wrote_in acts ≡ [] → end_well acts ≡ false
      → IsLive (did ++ acts) ran (record v { waiting = bytes })
  live_read acts bytes none read wrote stays = record {
    heard = h.heard;
    read = read_in-append did acts ∙ ap (λ r. r ++ read_in acts) (h.read ∙ ap (λ w. h.heard ++ w) none ∙ append-nil h.heard)
        ∙ ap (λ r. h.heard ++ r) read;
    ran = h.ran;
    holds = h.holds;
    speaks = h.speaks;
    text = ap (λ w. w ++ v.pending) (wrote_in-append did acts ∙ ap (λ w. wrote_in did ++ w) wrote ∙ append-nil (wrote_in did)) ∙ h.text;
    last = h.last;
    asked = h.asked;
    stays = both_open did acts h.stays stays;
  }

  -- answers were written
  pub live_send : (acts : List Act) (pending : List ℕ) → wrote_in acts ++ pending ≡ v.pending → read_in acts ≡ [] → end_well acts ≡ false
      → IsLive (did ++ acts) ran (record v { pending = pending })
  live_send acts pending wrote read stays = record {
    heard = h.heard;
    read = read_in-append did acts ∙ ap (λ r. read_in did ++ r) read ∙ append-nil (read_in did) ∙ h.read;
    ran = h.ran;
    holds = h.holds;
    speaks = h.speaks;
    text = ap (λ w. w ++ pending) (wrote_in-append did acts) ∙ append_assoc (wrote_in did) (wrote_in acts) pending
        ∙ ap (λ w. wrote_in did ++ w) wrote ∙ h.text;
    last = h.last;
    asked = h.asked;
    stays = both_open did acts h.stays stays;
  }

  -- lines were run
  pub live_hear : {S : Type 0} (rules : Rules S) (used rest : List ℕ) (turns : List Turn) (quit : Bool) (held' : Held) (who' : Option Speaker)
      (before after : S) (answers' waiting' : List ℕ) (more' : Bool) (journal journal' : Option Journal)
      → v.quits ≡ false → v.pending ≡ [] → used ++ rest ≡ v.waiting → waiting' ≡ rest
      → Steps rules used turns quit v.held held' v.who who' before after [] answers' journal journal'
      → IsLive did (ran ++ turns) (record { number = v.number; waiting = waiting'; more = more'; held = held'; who = who'; pending = answers'; quits = quit })
  live_hear rules used rest turns quit held' who' before after answers' waiting' more' journal journal' stays none cut is s =
      let goes_on : asks_to_quit (lines_in ran) ≡ false = sym h.asked ∙ stays in
      record {
        heard = h.heard ++ used;
        read = h.read ∙ ap (λ w. h.heard ++ w) (sym cut) ∙ sym (append_assoc h.heard used rest)
            ∙ ap (λ w. (h.heard ++ used) ++ w) (sym is);
        ran = lines_in-append ran turns ∙ ap (λ l. l ++ lines_in turns) h.ran ∙ sym (s.hears.lines h.heard h.holds);
        holds = s.hears.holds h.heard h.holds;
        speaks = Speaks-append None v.who who' ran turns h.speaks s.speaks;
        text = ap (λ w. wrote_in did ++ w) s.text
            ∙ ap (λ w. w ++ texts turns) (sym (append-nil (wrote_in did)) ∙ ap (λ w. wrote_in did ++ w) (sym none) ∙ h.text)
            ∙ sym (texts-append ran turns);
        last = ap through_quit (lines_in-append ran turns) ∙ through_quit-none (lines_in ran) (lines_in turns) goes_on
            ∙ ap (λ l. lines_in ran ++ l) s.last ∙ sym (lines_in-append ran turns);
        asked = s.quits ∙ sym (ap asks_to_quit (lines_in-append ran turns) ∙ list_any-append is_quit (lines_in ran) (lines_in turns)
            ∙ ap (λ b. b || asks_to_quit (lines_in turns)) goes_on);
        stays = h.stays;
      }

  -- so the promise is kept so far
  pub live_part : IsPart did ran
  live_part = record {
    heard = h.heard;
    unheard = v.waiting;
    missing = v.pending;
    last_who = v.who;
    read = h.read;
    ran = h.ran;
    speaks = h.speaks;
    text = h.text;
    last = h.last;
  }

  -- and all of it, where nothing is left
  pub live_whole : v.pending ≡ [] → ((v.quits ≡ true) ⊎ (v.waiting ≡ [])) → IsWhole did ran
  live_whole none ends = record {
    last_who = v.who;
    ran = lines;
    speaks = h.speaks;
    text = sym (append-nil (wrote_in did)) ∙ ap (λ w. wrote_in did ++ w) (sym none) ∙ h.text;
  }
    where
      all : ((v.quits ≡ true) ⊎ (v.waiting ≡ [])) → served (h.heard ++ v.waiting) ≡ served h.heard
      all (inl quits) = served-after_quit h.heard v.waiting (ap asks_to_quit (sym h.ran) ∙ sym h.asked ∙ quits)
      all (inr none) = ap (λ w. served (h.heard ++ w)) none ∙ ap served (append-nil h.heard)

      lines : lines_in ran ≡ served (read_in did)
      lines = sym (ap served h.read ∙ all ends ∙ ap through_quit (sym h.ran) ∙ h.last)

-- ---- logs

pub then_log : (a b c : Acts) (xs ys : List Act) → DidLog a xs b → DidLog b ys c → DidLog a (xs ++ ys) c
then_log None b c xs ys h k = tt
then_log (Some log) b c xs ys h k =
    let later : DidLog (Some (log ++ xs)) ys c = subst (λ v. DidLog v ys c) h k in
    later ∙ ap Some (append_assoc log xs ys)

-- what was asked in two steps
pub cut_log : (a c : Acts) (xs ys : List Act) → DidLog a (xs ++ ys) c → (b : Acts) × DidLog a xs b × DidLog b ys c
cut_log None c xs ys h = (None, tt, tt)
cut_log (Some log) c xs ys h = (Some (log ++ xs), refl, h ∙ ap Some (sym (append_assoc log xs ys)))

pub no_log : (a : Acts) → DidLog a [] a
no_log None = tt
no_log (Some log) = ap Some (sym (append-nil log))

-- ---- the buffers

-- what is left to write after a write
pub took_text : (items text view : List ℕ) (written n : ℕ) → text ≡ drop written items → drop written items ≡ view
    → (take n text ++ []) ++ drop (written + n) items ≡ view
took_text items text view written n e is =
    ap (λ t. t ++ drop (written + n) items) (append-nil (take n text) ∙ ap (take n) e)
    ∙ ap (λ t. take n (drop written items) ++ t) (sym (drop-drop n written items))
    ∙ take-append-drop n (drop written items) ∙ is

-- what is kept of the input
pub keep_text : (bytes view used rest : List ℕ) (from to left : ℕ) → length bytes ≡ to → from ≤ to → drop from bytes ≡ view → used ++ rest ≡ view
    → length rest ≡ left → drop (to - left) bytes ≡ rest
keep_text bytes view used rest from to left long within is cut few =
    let many : length used + left ≡ to - from
    = sym (length-append used rest ∙ ap (λ n. length used + n) few) ∙ ap length (cut ∙ sym is) ∙ length-drop from bytes ∙ ap (λ n. n - from) long in
    let place : to - left ≡ from + length used = omega (arith, many) in
    ap (λ n. drop n bytes) place ∙ sym (drop-drop (length used) from bytes) ∙ ap (drop (length used)) (is ∙ sym cut) ∙ drop_at used rest (length used) refl
