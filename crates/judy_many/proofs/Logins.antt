-- Lines of one connection where the names and tokens stayed.
--     texts_are        the answers, by the definition of a connection's answers
--     whole_is         all answers of a connection that was closed in order
--     own_use          the lines of one connection are among all lines
use Rattle.std.proofs.Common.{◌≡◌, ℕ, true, false, List, [], ◌∷◌, ◌++◌, length, Option, None, sym, ◌∙◌, ap, subst, refl, append-nil}
use Rattle.std.specs.Prelude.{if◌then◌else◌}
use Rattle.judy_model.proofs.lemmas.StreamLemmas.{answer_from-append}
use Rattle.judy_model.specs.Speakers.{Speaker}
use Rattle.judy_model.specs.Stream.{Login, answer, event_of, events_from, answer_from, speaker_after}
use Rattle.judy_many.specs.Lives.{IsWhole, read_in, wrote_in}
use Rattle.judy_many.specs.Nets.{Act}
use Rattle.judy_many.specs.Sessions.{AreLetIn, ComeByLogin, Speaks, Turn, UseLogin, answer_if, calls_if, crowded_answer, lines_in, replies_in, text_of, texts, unless_crowded}
use Rattle.judy_many.specs.Stories.{Story, belongs, own, turns_in}
use Rattle.judy_many.specs.Stories.Moment.{Changed, Did, Ran}
use Rattle.judy_many.proofs.Stepping.{answer_is}

-- the answers to one session's lines, by the definition of a connection's answers
pub texts_are : (login : Login) (who last : Option Speaker) (ts : List Turn) → UseLogin login ts → Speaks who ts last
    → texts ts ≡ answer_from login who (lines_in ts) (replies_in ts)
texts_are login who last [] kept h = refl
texts_are login who last (t ∷ ts) kept h =
    let (let_in, taken, by, more) = kept in
    let one : length t.replies ≡ length (events_from login who (t.line ∷ []))
    = h.1 ∙ ap (λ b. length (calls_if b t.line t.who)) taken ∙ ap (λ w. length (event_of t.line w)) h.0 ∙ ap length (sym (append-nil (event_of t.line who))) in
    let text : text_of t ≡ answer_from login t.who (t.line ∷ []) t.replies
    = ap (λ b. if b then crowded_answer else answer_if t.barred t.after t.who t.line t.replies) let_in
    ∙ ap (λ b. answer_if b t.after t.who t.line t.replies) taken
    ∙ ap (λ w. answer_from (λ name token. w) t.who (t.line ∷ []) t.replies) by ∙ sym (answer_is login t.who t.line t.replies) in
    let later : t.after ≡ speaker_after login who t.line = by ∙ ap (λ w. speaker_after login w t.line) h.0 in
    ap (λ v. v ++ texts ts) (text ∙ ap (λ w. answer_from login w (t.line ∷ []) t.replies) h.0)
    ∙ ap (λ v. answer_from login who (t.line ∷ []) t.replies ++ v) (texts_are login (speaker_after login who t.line) last ts more (subst (λ w. Speaks w ts last) later h.2))
    ∙ sym (answer_from-append login who (t.line ∷ []) (lines_in ts) t.replies (replies_in ts) one)

-- what was written to a connection that was closed in order
pub whole_is : (login : Login) (acts : List Act) (turns : List Turn) → UseLogin login turns → IsWhole acts turns
    → wrote_in acts ≡ answer login (read_in acts) (replies_in turns)
whole_is login acts turns kept w = w.text ∙ texts_are login None w.last_who turns kept w.speaks ∙ ap (λ ls. answer_from login None ls (replies_in turns)) w.ran

-- ---- the lines of one connection are among all lines

ComeByLogin-append : (login : Login) (ts us : List Turn) → ComeByLogin login ts → ComeByLogin login us → ComeByLogin login (ts ++ us)
ComeByLogin-append login [] us h k = k
ComeByLogin-append login (t ∷ ts) us h k = (h.0, ComeByLogin-append login ts us h.1 k)

first_come : (login : Login) (ts us : List Turn) → ComeByLogin login (ts ++ us) → ComeByLogin login ts × ComeByLogin login us
first_come login [] us h = (tt, h)
first_come login (t ∷ ts) us h = let rest = first_come login ts us h.1 in ((h.0, rest.0), rest.1)

-- those of one connection
own_come : (login : Login) (n : ℕ) (story : Story) → ComeByLogin login (turns_in story) → ComeByLogin login (turns_in (own n story))
own_come login n [] h = tt
own_come login n (Did a ∷ story) h =
    elim (belongs n (Did a)) as (λ b. ComeByLogin login (turns_in (if b then Did a ∷ own n story else own n story))) [
      | true ↦ own_come login n story h
      | false ↦ own_come login n story h
    ]
own_come login n (Changed text left ∷ story) h = own_come login n story h
own_come login n (Ran m turns ∷ story) h =
    let parts = first_come login turns (turns_in story) h in
    elim (belongs n (Ran m turns)) as (λ b. ComeByLogin login (turns_in (if b then Ran m turns ∷ own n story else own n story))) [
      | true ↦ ComeByLogin-append login turns (turns_in (own n story)) parts.0 (own_come login n story parts.1)
      | false ↦ own_come login n story parts.1
    ]

-- where no log-in was refused since its tenant has enough connections, and no line for the journal
come_use : (login : Login) (ts : List Turn) → ComeByLogin login ts → AreLetIn ts → UseLogin login ts
come_use login [] h k = tt
come_use login (t ∷ ts) h k = (k.0, k.1, h.0 ∙ ap (λ b. unless_crowded b (speaker_after login t.who t.line)) k.0, come_use login ts h.1 k.2)

pub own_use : (login : Login) (n : ℕ) (story : Story) → ComeByLogin login (turns_in story) → AreLetIn (turns_in (own n story)) → UseLogin login (turns_in (own n story))
own_use login n story h k = come_use login (turns_in (own n story)) (own_come login n story h) k
