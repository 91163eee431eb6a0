-- Two worlds on bytes: what is written to a tenant's connection.
--     CallsBy t n story    the calls of this tenant are those of the lines of this connection
--     hosted-bytes         equal bytes read, quotas, arrays and refusals give equal bytes written,
--                          whatever the other connections of the two servers do, as long as the tables
--                          stay, no log-in is refused since its tenant has enough connections, and no line
--                          since the journal does not take its record
--     hosted-bytes-by-logins   the same for lines whose log-ins are by the same names and tokens, and
--                          for tenants that each new table keeps
use Rattle.std.proofs.Common.{◌≡◌, ◌∙◌, ℕ, true, List, [], ◌∷◌, ◌++◌, map, length, Option, None, ap, ap₂, subst, sym, refl, arith}
use Rattle.std.proofs.lemmas.List.{length-append}
use Rattle.std.specs.Prelude.{zip}
use Rattle.judy_many.specs.Changes.{exchanges}
use Rattle.judy_journal.specs.Writes.{Writing}
use Rattle.judy_many.specs.Crowds.{HasServedMany}
use Rattle.judy_many.specs.Lives.{IsWhole, end_well, read_in, wrote_in}
use Rattle.judy_many.specs.Rules.{Rules}
use Rattle.judy_many.specs.Sessions.{AreLetIn, Speaks, Turn, UseLogin, calls_if, calls_of, events_in, lines_in, replies_in}
use Rattle.judy_many.specs.Statuses.{Keeps}
use Rattle.judy_many.specs.Stories.{Story, acts_in, changes_in, turns_in, own as moments_of}
use Rattle.judy_many.specs.declared.serve.Ending.{Ending}
use Rattle.judy_many.specs.declared.serve.Limits.{Limits}
use Rattle.judy_model.specs.declared.replies.Reply.{Reply}
use Rattle.judy_model.specs.Solo.{Exchanges, attempts_of, refusals, replies_of}
use Rattle.judy_model.specs.Speakers.{Event, Speaker, attempt_of}
use Rattle.judy_model.specs.Stream.{Heard, Login, answer, event_of, events_from, served, speaker_after}
use Rattle.judy_many.proofs.Logins.{whole_is}
use Rattle.judy_many.proofs.Seeing.{IsUnseen, KeepsApart}
use Rattle.judy_many.proofs.Unchanged.{keeps_all, one_login}
use Rattle.judy_programs.specs.Asking.{Log}
use Rattle.judy_programs.proofs.lemmas.Worlds.{hosted-worlds}

-- calls with their replies, as their tenant makes them
abbrev exchanged : List Event → List Reply → Exchanges
exchanged events replies = map (λ p. (attempt_of p.0, p.1)) (zip events replies)

-- those of the lines of one connection
abbrev exchanges_of : List Turn → Exchanges
exchanges_of turns = exchanged (events_in turns) (replies_in turns)

-- the calls of this tenant are those of the lines of this connection, and no others
abbrev pub CallsBy : ℕ → ℕ → Story → Type 0
CallsBy t n story = exchanges t (turns_in story) ≡ exchanges_of (turns_in (moments_of n story))

-- ---- the lines of one connection

calls-are : (login : Login) (who : Option Speaker) (turns : List Turn) (last : Option Speaker) → UseLogin login turns → Speaks who turns last
    → events_in turns ≡ events_from login who (lines_in turns)
calls-are login who [] last used s = refl
calls-are login who (t ∷ turns) last (let_in, taken, by, used) (same, count, more) =
    let after : t.after ≡ speaker_after login who t.line = by ∙ ap (λ w. speaker_after login w t.line) same in
    ap₂ (λ a b. a ++ b) (ap (λ b. calls_if b t.line t.who) taken ∙ ap (event_of t.line) same)
    (calls-are login (speaker_after login who t.line) turns last used (subst (λ w. Speaks w turns last) after more))

replies-count : (who : Option Speaker) (turns : List Turn) (last : Option Speaker) → Speaks who turns last
    → length (replies_in turns) ≡ length (events_in turns)
replies-count who [] last s = refl
replies-count who (t ∷ turns) last (same, count, more) =
    let here : length t.replies ≡ length (calls_of t) = count in
    let others = replies-count t.after turns last more in
    omega (arith, here, others, length-append t.replies (replies_in turns), length-append (calls_of t) (events_in turns))

attempts-are : (es : List Event) (rs : List Reply) → length rs ≡ length es → attempts_of (exchanged es rs) ≡ map attempt_of es
attempts-are [] [] h = refl
attempts-are [] (r ∷ rs) h = absurd (omega (arith, h))
attempts-are (e ∷ es) [] h = absurd (omega (arith, h))
attempts-are (e ∷ es) (r ∷ rs) h = ap (λ v. attempt_of e ∷ v) (attempts-are es rs (omega (arith, h)))

replies-are : (es : List Event) (rs : List Reply) → length rs ≡ length es → replies_of (exchanged es rs) ≡ rs
replies-are [] [] h = refl
replies-are [] (r ∷ rs) h = absurd (omega (arith, h))
replies-are (e ∷ es) [] h = absurd (omega (arith, h))
replies-are (e ∷ es) (r ∷ rs) h = ap (λ v. r ∷ v) (replies-are es rs (omega (arith, h)))

-- ---- two servers

-- Take a connection of one server and a connection of another, each closed after QUIT or after the end
-- of what it sent. Each alone makes the calls of a tenant. If the bytes read from them, the tenants'
-- quotas and arrays at the start, the names and tokens by which they log in, and the places of the
-- refusals for memory are equal, then the bytes written to them are equal.
pub hosted-bytes-by-logins : {S T : Type 0} (rules : Rules S) (rules' : Rules T)
    (limits limits' : Limits) (writer writer' : Option Writing) (how how' : Ending) (log last log' last' : Log) (before after : S) (before' after' : T)
    (h : HasServedMany rules limits writer how log last before after) (k : HasServedMany rules' limits' writer' how' log' last' before' after')
    (t u n m : ℕ) (login : Login) → UseLogin login (turns_in (moments_of n h.story)) → UseLogin login (turns_in (moments_of m k.story))
    → Keeps rules t [] before h.story after h.told → Keeps rules' u [] before' k.story after' k.told
    → (rules'.seen before').quotas u ≡ (rules.seen before).quotas t → (rules'.seen before').states u ≡ (rules.seen before).states t
    → CallsBy t n h.story → CallsBy u m k.story
    → let mine = moments_of n h.story in let theirs = moments_of m k.story in
    end_well (acts_in mine) ≡ true → end_well (acts_in theirs) ≡ true
    → read_in (acts_in theirs) ≡ read_in (acts_in mine)
    → refusals (exchanges_of (turns_in theirs)) ≡ refusals (exchanges_of (turns_in mine))
    → wrote_in (acts_in theirs) ≡ wrote_in (acts_in mine)
hosted-bytes-by-logins rules rules' limits limits' writer writer' how how' log last log' last' before after before' after' h k t u n m
    login used used' kept kept' quota state by by' well well' bytes marks =
    let mine = moments_of n h.story in
    let theirs = moments_of m k.story in
    let w : IsWhole (acts_in mine) (turns_in mine) = (h.served n).whole well in
    let w' : IsWhole (acts_in theirs) (turns_in theirs) = (k.served m).whole well' in
    let lines : lines_in (turns_in theirs) ≡ lines_in (turns_in mine) = w'.ran ∙ ap served bytes ∙ sym w.ran in
    let calls : events_in (turns_in theirs) ≡ events_in (turns_in mine)
    = calls-are login None (turns_in theirs) w'.last_who used' w'.speaks ∙ ap (events_from login None) lines
    ∙ sym (calls-are login None (turns_in mine) w.last_who used w.speaks) in
    let count = replies-count None (turns_in mine) w.last_who w.speaks in
    let count' = replies-count None (turns_in theirs) w'.last_who w'.speaks in
    let attempts : attempts_of (exchanges_of (turns_in theirs)) ≡ attempts_of (exchanges_of (turns_in mine))
    = attempts-are (events_in (turns_in theirs)) (replies_in (turns_in theirs)) count' ∙ ap (map attempt_of) calls
    ∙ sym (attempts-are (events_in (turns_in mine)) (replies_in (turns_in mine)) count) in
    let worlds = hosted-worlds rules rules' limits limits' writer writer' how how' log last log' last' before after before' after' h k t u kept kept' quota state
    (ap attempts_of by' ∙ attempts ∙ ap attempts_of (sym by)) (ap refusals by' ∙ marks ∙ ap refusals (sym by)) in
    let replies : replies_in (turns_in theirs) ≡ replies_in (turns_in mine)
    = sym (replies-are (events_in (turns_in theirs)) (replies_in (turns_in theirs)) count') ∙ ap replies_of (sym by' ∙ worlds.0 ∙ by)
    ∙ replies-are (events_in (turns_in mine)) (replies_in (turns_in mine)) count in
    whole_is login (acts_in theirs) (turns_in theirs) used' w' ∙ ap₂ (λ b rs. answer login b rs) bytes replies
    ∙ sym (whole_is login (acts_in mine) (turns_in mine) used w)

-- So it is if the two services begin with equal names and tokens, and their tables stay: calls and counts
-- change none. On the two connections no log-in was refused since its tenant has enough connections, and no line
-- since the journal does not take its record; without `--tenant-clients` and without a journal none is (judy_many's
-- `let_in`).
pub hosted-bytes : {S T : Type 0} (rules : Rules S) (rules' : Rules T)
    → KeepsApart rules → IsUnseen rules → KeepsApart rules' → IsUnseen rules'
    → (limits limits' : Limits) (writer writer' : Option Writing) (how how' : Ending) (log last log' last' : Log) (before after : S) (before' after' : T)
    (h : HasServedMany rules limits writer how log last before after) (k : HasServedMany rules' limits' writer' how' log' last' before' after')
    (t u n m : ℕ) → changes_in h.story ≡ [] → changes_in k.story ≡ []
    → AreLetIn (turns_in (moments_of n h.story)) → AreLetIn (turns_in (moments_of m k.story)) → (rules'.seen before').logins ≡ (rules.seen before).logins
    → (rules'.seen before').quotas u ≡ (rules.seen before).quotas t → (rules'.seen before').states u ≡ (rules.seen before).states t
    → CallsBy t n h.story → CallsBy u m k.story
    → let mine = moments_of n h.story in let theirs = moments_of m k.story in
    end_well (acts_in mine) ≡ true → end_well (acts_in theirs) ≡ true
    → read_in (acts_in theirs) ≡ read_in (acts_in mine)
    → refusals (exchanges_of (turns_in theirs)) ≡ refusals (exchanges_of (turns_in mine))
    → wrote_in (acts_in theirs) ≡ wrote_in (acts_in mine)
hosted-bytes rules rules' apart unseen apart' unseen' limits limits' writer writer' how how' log last log' last' before after before' after' h k t u n m same same' none none' logins =
    let login = (rules.seen before).logins in
    let used = one_login rules limits writer how log last before after h apart unseen same n none in
    let used' = subst (λ l. UseLogin l (turns_in (moments_of m k.story))) logins
    (one_login rules' limits' writer' how' log' last' before' after' k apart' unseen' same' m none') in
    hosted-bytes-by-logins rules rules' limits limits' writer writer' how how' log last log' last' before after before' after' h k t u n m login used used'
    (keeps_all rules t [] before h.story after same h.told) (keeps_all rules' u [] before' k.story after' same' k.told)
