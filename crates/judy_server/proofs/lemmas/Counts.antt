-- What the counters of a service say of its lines: each rose by the number of those that it counts.
--     lines-counted      by what they ask for
--     replies-counted    by the kinds of their answers
--     logins-counted     refused log-ins, by tenant
--     unknown-counted    refused log-ins with a name that no tenant has
--     spoken-rise, full-rise   lines, and `FULL`, by the tenant that speaks
--     story-counted      so it is over new tables, which forget the refused log-ins of places without a tenant
--     counted-from-start so it is for a server since its start, from 0
use Rattle.std.specs.Prelude.{◌≡◌, ◌+◌, ◌-◌, ◌^◌, ◌<◌, ◌≤◌, ◌==◌, ◌&&◌, ℕ, zero, suc, Bool, true, false, cond, List, [], ◌∷◌, ◌++◌, Option, Some, None, count_by, length, replicate, slice_index, slice_set}
use Rattle.std.proofs.Common.{◌∙◌, ap, arith, refl, subst, sym}
use Rattle.std.proofs.lemmas.Bool.Decides.{nat_tests}
use Rattle.std.proofs.lemmas.List.Sums.{sum_by-append, sum_by-cons}
use Rattle.std.proofs.lemmas.List.{get_or-set_other, get_or-set_same, length-set}
use Rattle.judy_arena.specs.Blocks.{count_up}
use Rattle.judy_many.specs.Sessions.{AreTurns, IsTurn, Turn, text_of}
use Rattle.judy_many.specs.Statuses.{Passes}
use Rattle.judy_many.specs.Stories.{Story, turns_in}
use Rattle.judy_many.specs.Stories.Moment.{Changed, Did, Ran}
use Rattle.judy_many.specs.declared.serve.Ending.{Ending}
use Rattle.judy_many.specs.declared.serve.Limits.{Limits}
use Rattle.judy_model.specs.Speakers.{Event, Speaker}
use Rattle.judy_model.specs.declared.replies.Reply.{Reply}
use Rattle.judy_programs.specs.Asking.{Log}
use Rattle.judy_programs.specs.Hosting.{Desks}
use Rattle.judy_protocol.specs.Services.{AreMade}
use Rattle.judy_table.specs.Tenants.{is_vacant, place_of}
use Rattle.judy_table.specs.declared.tenant.Tenant.{Tenant}
use Rattle.judy_server.specs.Counts.{AreCounted, answers, asks, counted_over, fills, full_over, is_place, is_refused_to, is_vacant_at, kept_at, refused_over, refuses, risen, speaks_at, spoken_over, unknown_over}
use Rattle.judy_server.specs.Present.{speaks_for}
use Rattle.judy_server.specs.Reloads.{IsReload, forgotten, rows_with}
use Rattle.judy_server.specs.Rules.{server_rules}
use Rattle.judy_server.specs.Served.{IsServedStep}
use Rattle.judy_server.specs.Starts.{HasServedAny}
use Rattle.judy_server.specs.Tally.{Tallied, bumped, call_place, counted, no_counts, refused_at, refused_name, refused_to, reply_place, tenant_of, with_line, with_share}
use Rattle.judy_server.specs.declared.tally.Tally.{Tally}
use Rattle.judy_server.specs.declared.tally.TheConstants.{CALLS}
use Rattle.judy_server.proofs.lemmas.Space.{rows-of}
use Rattle.judy_server.proofs.lemmas.Starting.{started-keeps}

-- ---- one counter of a list

bumped-length : (counts : List ℕ) (i : ℕ) → length (bumped counts i) ≡ length counts
bumped-length counts i = length-set counts i (count_up (slice_index counts i))

bumped-at : (counts : List ℕ) (i place : ℕ) → place < length counts
    → slice_index (bumped counts i) place ≡ cond (i == place) (count_up (slice_index counts place)) (slice_index counts place)
bumped-at counts i place few = by (i == place) refl
  where
    by : (b : Bool) → (i == place) ≡ b
        → slice_index (bumped counts i) place ≡ cond b (count_up (slice_index counts place)) (slice_index counts place)
    by true e =
        let same : i ≡ place = grind (arith, nat_tests) in
        subst (λ k. slice_index (bumped counts k) place ≡ count_up (slice_index counts place)) (sym same)
        (get_or-set_same counts place (count_up (slice_index counts place)) 0 few)
    by false e =
        let other : place ≡ i → ⊥ = λ same. grind (arith, nat_tests) in
        get_or-set_other counts i place (count_up (slice_index counts i)) 0 other

-- ---- one line

-- a counter that a line makes rise where the test says so
abbrev Rises : (Tally → ℕ) → (Tally → Type 0) → (List Tenant → Turn → Bool) → Type 0
Rises count fits test = (tenants : List Tenant) (t : Turn) (tally : Tally) → fits tally
    → (count (counted tenants t.after t.line (text_of t) tally) ≡ cond (test tenants t) (count_up (count tally)) (count tally))
    × fits (counted tenants t.after t.line (text_of t) tally)

-- calls keep the table and count nothing
calls-kept : (before : Tallied) (ps : List (Event × Reply)) (after : Tallied) → AreMade IsServedStep before ps after
    → (after.held.tenants ≡ before.held.tenants) × (after.tally ≡ before.tally)
calls-kept before [] after same = (ap (λ (t : Tallied). t.held.tenants) same, ap (λ (t : Tallied). t.tally) same)
calls-kept before (p ∷ ps) after (mid, made, run) =
    let later = calls-kept mid ps after run in (later.0 ∙ made.keeps.tenants, later.1 ∙ made.tally)

-- a line keeps the table, and is counted
line-counted : (before : Tallied) (t : Turn) (after : Tallied) → IsTurn server_rules before t after
    → (after.held.tenants ≡ before.held.tenants) × (after.tally ≡ counted before.held.tenants t.after t.line (text_of t) before.tally)
line-counted before t after one =
    let kept = calls-kept before _ one.mid one.calls in (
      ap (λ (s : Tallied). s.held.tenants) one.noted ∙ kept.0,
      ap (λ (s : Tallied). s.tally) one.noted ∙ ap (λ ts. counted ts t.after t.line (text_of t) one.mid.tally) kept.0
          ∙ ap (λ c. counted before.held.tenants t.after t.line (text_of t) c) kept.1,
    )

-- ---- many lines

one-more : (c n : ℕ) → risen (count_up c) n ≡ risen c (1 + n)
one-more c n = omega arith

no-more : (c n : ℕ) → risen c n ≡ risen c (0 + n)
no-more c n = ap (risen c) (omega arith)

risen-step : (b : Bool) (c n : ℕ) → risen (cond b (count_up c) c) n ≡ risen c (cond b 1 0 + n)
risen-step true c n = one-more c n
risen-step false c n = no-more c n

up-small : (b : Bool) (c : ℕ) → c ≤ 2 ^ 64 - 1 → cond b (count_up c) c ≤ 2 ^ 64 - 1
up-small true c h = omega arith
up-small false c h = h

module _ (count : Tally → ℕ) (fits : Tally → Type 0) (test : List Tenant → Turn → Bool) (rises : Rises count fits test) where
  turns-counted : (before : Tallied) (turns : List Turn) (after : Tallied) → fits before.tally → count before.tally ≤ 2 ^ 64 - 1
      → AreTurns server_rules before turns after
      → count after.tally ≡ risen (count before.tally) (count_by (test before.held.tenants) turns)
  turns-counted before [] after f small same = ap (λ (s : Tallied). count s.tally) same ∙ omega arith
  turns-counted before (t ∷ turns) after f small (mid, one, run) =
      let line = line-counted before t mid one in
      let here = rises before.held.tenants t before.tally f in
      let now : count mid.tally ≡ cond (test before.held.tenants t) (count_up (count before.tally)) (count before.tally) = ap count line.1 ∙ here.0 in
      let fit : fits mid.tally = subst fits (sym line.1) here.1 in
      let low : count mid.tally ≤ 2 ^ 64 - 1 = subst (λ n. n ≤ 2 ^ 64 - 1) (sym now) (up-small (test before.held.tenants t) (count before.tally) small) in
      turns-counted mid turns after fit low run
      ∙ ap (λ ts. risen (count mid.tally) (count_by (test ts) turns)) line.0
      ∙ ap (λ c. risen c (count_by (test before.held.tenants) turns)) now
      ∙ risen-step (test before.held.tenants t) (count before.tally) (count_by (test before.held.tenants) turns)
      ∙ ap (risen (count before.tally)) (sym (sum_by-cons (λ x. cond (test before.held.tenants x) 1 0) t turns))

-- ---- each counter

refused-lines : (tenants : List Tenant) (o : Option (List ℕ)) (tally : Tally) → (refused_to tenants o tally).lines ≡ tally.lines
refused-lines tenants None tally = refl
refused-lines tenants (Some name) tally = at (place_of name tenants)
  where
    at : (o : Option ℕ) → (refused_at o tally).lines ≡ tally.lines
    at None = refl
    at (Some place) = refl

refused-replies : (tenants : List Tenant) (o : Option (List ℕ)) (tally : Tally) → (refused_to tenants o tally).replies ≡ tally.replies
refused-replies tenants None tally = refl
refused-replies tenants (Some name) tally = at (place_of name tenants)
  where
    at : (o : Option ℕ) → (refused_at o tally).replies ≡ tally.replies
    at None = refl
    at (Some place) = refl

refused-spoken : (tenants : List Tenant) (o : Option (List ℕ)) (tally : Tally) → (refused_to tenants o tally).spoken ≡ tally.spoken
refused-spoken tenants None tally = refl
refused-spoken tenants (Some name) tally = at (place_of name tenants)
  where
    at : (o : Option ℕ) → (refused_at o tally).spoken ≡ tally.spoken
    at None = refl
    at (Some place) = refl

refused-full : (tenants : List Tenant) (o : Option (List ℕ)) (tally : Tally) → (refused_to tenants o tally).full ≡ tally.full
refused-full tenants None tally = refl
refused-full tenants (Some name) tally = at (place_of name tenants)
  where
    at : (o : Option ℕ) → (refused_at o tally).full ≡ tally.full
    at None = refl
    at (Some place) = refl

refused-refused : (tenants : List Tenant) (o : Option (List ℕ)) (tally : Tally) (place : ℕ) → place < length tally.refused
    → (slice_index (refused_to tenants o tally).refused place
    ≡ cond (is_refused_to tenants (Some place) o) (count_up (slice_index tally.refused place)) (slice_index tally.refused place))
    × (length (refused_to tenants o tally).refused ≡ length tally.refused)
refused-refused tenants None tally place few = (refl, refl)
refused-refused tenants (Some name) tally place few = at (place_of name tenants)
  where
    at : (o : Option ℕ) → (slice_index (refused_at o tally).refused place
        ≡ cond (is_place o (Some place)) (count_up (slice_index tally.refused place)) (slice_index tally.refused place))
        × (length (refused_at o tally).refused ≡ length tally.refused)
    at None = (refl, refl)
    at (Some p) = (bumped-at tally.refused p place few, bumped-length tally.refused p)

refused-unknown : (tenants : List Tenant) (o : Option (List ℕ)) (tally : Tally)
    → (refused_to tenants o tally).unknown ≡ cond (is_refused_to tenants None o) (count_up tally.unknown) tally.unknown
refused-unknown tenants None tally = refl
refused-unknown tenants (Some name) tally = at (place_of name tenants)
  where
    at : (o : Option ℕ) → (refused_at o tally).unknown ≡ cond (is_place o None) (count_up tally.unknown) tally.unknown
    at None = refl
    at (Some p) = refl

-- what is counted for the tenant that speaks after a line, if one does, changes no other counter
shared-lines : (who : Option ℕ) (answer : List ℕ) (tally : Tally) → (with_share who answer tally).lines ≡ tally.lines
shared-lines None answer tally = refl
shared-lines (Some place) answer tally = refl

shared-replies : (who : Option ℕ) (answer : List ℕ) (tally : Tally) → (with_share who answer tally).replies ≡ tally.replies
shared-replies None answer tally = refl
shared-replies (Some place) answer tally = refl

shared-refused : (who : Option ℕ) (answer : List ℕ) (tally : Tally) → (with_share who answer tally).refused ≡ tally.refused
shared-refused None answer tally = refl
shared-refused (Some place) answer tally = refl

shared-unknown : (who : Option ℕ) (answer : List ℕ) (tally : Tally) → (with_share who answer tally).unknown ≡ tally.unknown
shared-unknown None answer tally = refl
shared-unknown (Some place) answer tally = refl

shared-spoken : (who : Option Speaker) (answer : List ℕ) (tally : Tally) (place : ℕ) → place < length tally.spoken
    → (slice_index (with_share (tenant_of who) answer tally).spoken place
    ≡ cond (speaks_for place who) (count_up (slice_index tally.spoken place)) (slice_index tally.spoken place))
    × (length (with_share (tenant_of who) answer tally).spoken ≡ length tally.spoken)
shared-spoken None answer tally place few = (refl, refl)
shared-spoken (Some speaker) answer tally place few = (bumped-at tally.spoken speaker.tenant place few, bumped-length tally.spoken speaker.tenant)

bumped-if : (test : Bool) (counts : List ℕ) (i place : ℕ) → place < length counts
    → (slice_index (cond test (bumped counts i) counts) place ≡ cond (test && (i == place)) (count_up (slice_index counts place)) (slice_index counts place))
    × (length (cond test (bumped counts i) counts) ≡ length counts)
bumped-if true counts i place few = (bumped-at counts i place few, bumped-length counts i)
bumped-if false counts i place few = (refl, refl)

not-both : (test : Bool) (m n : ℕ) → n ≡ cond (test && false) m n
not-both true m n = refl
not-both false m n = refl

shared-full : (who : Option Speaker) (answer : List ℕ) (tally : Tally) (place : ℕ) → place < length tally.full
    → (slice_index (with_share (tenant_of who) answer tally).full place
    ≡ cond ((reply_place answer == 1) && speaks_for place who) (count_up (slice_index tally.full place)) (slice_index tally.full place))
    × (length (with_share (tenant_of who) answer tally).full ≡ length tally.full)
shared-full None answer tally place few =
    (not-both (reply_place answer == 1) (count_up (slice_index tally.full place)) (slice_index tally.full place), refl)
shared-full (Some speaker) answer tally place few = bumped-if (reply_place answer == 1) tally.full speaker.tenant place few

-- the counts after a line, before a refused log-in is counted
abbrev shared : Turn → Tally → Tally
shared t tally = with_share (tenant_of t.after) (text_of t) (with_line t.line (text_of t) tally)

lines-rise : (place : ℕ) → Rises (λ tally. slice_index tally.lines place) (λ tally. place < length tally.lines) (λ tenants. asks place)
lines-rise place tenants t tally few =
    let same = refused-lines tenants (refused_name t.line (text_of t)) (shared t tally) ∙ shared-lines (tenant_of t.after) (text_of t) (with_line t.line (text_of t) tally) in (
      ap (λ xs. slice_index xs place) same ∙ bumped-at tally.lines (call_place t.line) place few,
      subst (λ xs. place < length xs) (sym same) (subst (λ n. place < n) (sym (bumped-length tally.lines (call_place t.line))) few),
    )

replies-rise : (place : ℕ) → Rises (λ tally. slice_index tally.replies place) (λ tally. place < length tally.replies) (λ tenants. answers place)
replies-rise place tenants t tally few =
    let same = refused-replies tenants (refused_name t.line (text_of t)) (shared t tally) ∙ shared-replies (tenant_of t.after) (text_of t) (with_line t.line (text_of t) tally) in (
      ap (λ xs. slice_index xs place) same ∙ bumped-at tally.replies (reply_place (text_of t)) place few,
      subst (λ xs. place < length xs) (sym same) (subst (λ n. place < n) (sym (bumped-length tally.replies (reply_place (text_of t)))) few),
    )

logins-rise : (place : ℕ) → Rises (λ tally. slice_index tally.refused place) (λ tally. place < length tally.refused) (λ tenants. refuses tenants (Some place))
logins-rise place tenants t tally few =
    let same = shared-refused (tenant_of t.after) (text_of t) (with_line t.line (text_of t) tally) in
    let fits : place < length (shared t tally).refused = subst (λ xs. place < length xs) (sym same) few in
    let here = refused-refused tenants (refused_name t.line (text_of t)) (shared t tally) place fits in (
      here.0 ∙ ap (λ xs. cond (refuses tenants (Some place) t) (count_up (slice_index xs place)) (slice_index xs place)) same,
      subst (λ n. place < n) (sym here.1) fits,
    )

unknown-rise : Rises (λ tally. tally.unknown) (λ tally. Unit {0}) (λ tenants. refuses tenants None)
unknown-rise tenants t tally few = (
  refused-unknown tenants (refused_name t.line (text_of t)) (shared t tally)
      ∙ ap (λ n. cond (refuses tenants None t) (count_up n) n) (shared-unknown (tenant_of t.after) (text_of t) (with_line t.line (text_of t) tally)),
  tt,
)

spoken-rise : (place : ℕ) → Rises (λ tally. slice_index tally.spoken place) (λ tally. place < length tally.spoken) (λ tenants. speaks_at place)
spoken-rise place tenants t tally few =
    let same = refused-spoken tenants (refused_name t.line (text_of t)) (shared t tally) in
    let here = shared-spoken t.after (text_of t) (with_line t.line (text_of t) tally) place few in (
      ap (λ xs. slice_index xs place) same ∙ here.0,
      subst (λ xs. place < length xs) (sym same) (subst (λ n. place < n) (sym here.1) few),
    )

full-rise : (place : ℕ) → Rises (λ tally. slice_index tally.full place) (λ tally. place < length tally.full) (λ tenants. fills place)
full-rise place tenants t tally few =
    let same = refused-full tenants (refused_name t.line (text_of t)) (shared t tally) in
    let here = shared-full t.after (text_of t) (with_line t.line (text_of t) tally) place few in (
      ap (λ xs. slice_index xs place) same ∙ here.0,
      subst (λ xs. place < length xs) (sym same) (subst (λ n. place < n) (sym here.1) few),
    )

-- ---- over the lines of a server

-- lines, by what they ask for
pub lines-counted : (place : ℕ) (before : Tallied) (turns : List Turn) (after : Tallied) → place < length before.tally.lines
    → slice_index before.tally.lines place ≤ 2 ^ 64 - 1 → AreTurns server_rules before turns after
    → slice_index after.tally.lines place ≡ risen (slice_index before.tally.lines place) (count_by (asks place) turns)
lines-counted place =
    turns-counted (λ tally. slice_index tally.lines place) (λ tally. place < length tally.lines) (λ tenants. asks place) (lines-rise place)

-- replies, by their kind
pub replies-counted : (place : ℕ) (before : Tallied) (turns : List Turn) (after : Tallied) → place < length before.tally.replies
    → slice_index before.tally.replies place ≤ 2 ^ 64 - 1 → AreTurns server_rules before turns after
    → slice_index after.tally.replies place ≡ risen (slice_index before.tally.replies place) (count_by (answers place) turns)
replies-counted place =
    turns-counted (λ tally. slice_index tally.replies place) (λ tally. place < length tally.replies) (λ tenants. answers place) (replies-rise place)

-- refused log-ins, by the place of their tenant
pub logins-counted : (place : ℕ) (before : Tallied) (turns : List Turn) (after : Tallied) → place < length before.tally.refused
    → slice_index before.tally.refused place ≤ 2 ^ 64 - 1 → AreTurns server_rules before turns after
    → slice_index after.tally.refused place ≡ risen (slice_index before.tally.refused place) (count_by (refuses before.held.tenants (Some place)) turns)
logins-counted place =
    turns-counted (λ tally. slice_index tally.refused place) (λ tally. place < length tally.refused) (λ tenants. refuses tenants (Some place)) (logins-rise place)

-- refused log-ins with a name that no tenant has
pub unknown-counted : (before : Tallied) (turns : List Turn) (after : Tallied) → before.tally.unknown ≤ 2 ^ 64 - 1
    → AreTurns server_rules before turns after
    → after.tally.unknown ≡ risen before.tally.unknown (count_by (refuses before.held.tenants None) turns)
unknown-counted before turns after =
    turns-counted (λ tally. tally.unknown) (λ tally. Unit {0}) (λ tenants. refuses tenants None) unknown-rise before turns after tt

-- ---- since the start

zeros : (n place : ℕ) → slice_index (replicate n 0) place ≡ 0
zeros zero place = refl
zeros (suc n) zero = refl
zeros (suc n) (suc place) = zeros n place

none-yet : ((place : ℕ) → slice_index no_counts.lines place ≡ 0) × ((place : ℕ) → slice_index no_counts.replies place ≡ 0)
    × ((place : ℕ) → slice_index no_counts.refused place ≡ 0) × (no_counts.unknown ≡ 0)
    × ((place : ℕ) → slice_index no_counts.spoken place ≡ 0) × ((place : ℕ) → slice_index no_counts.full place ≡ 0)
unfolding no_counts
none-yet = (zeros CALLS, zeros 10, zeros 128, refl, zeros 128, zeros 128)

counters : (length no_counts.lines ≡ CALLS) × (length no_counts.replies ≡ 10) × (length no_counts.refused ≡ 128)
    × (length no_counts.spoken ≡ 128) × (length no_counts.full ≡ 128)
unfolding no_counts
counters = (refl, refl, refl, refl, refl)

-- ---- over new tables

-- one count is forgotten, or none
set-length : (b : Bool) (counts : List ℕ) (from : ℕ) → length (cond b (slice_set counts from 0) counts) ≡ length counts
set-length true counts from = length-set counts from 0
set-length false counts from = refl

set-other : (b : Bool) (counts : List ℕ) (from place : ℕ) → (place ≡ from → ⊥) → slice_index (cond b (slice_set counts from 0) counts) place ≡ slice_index counts place
set-other true counts from place other = get_or-set_other counts from place 0 0 other
set-other false counts from place other = refl

set-here : (b : Bool) (counts : List ℕ) (from place : ℕ) → place ≡ from → place < length counts
    → slice_index (cond b (slice_set counts from 0) counts) place ≡ cond b 0 (slice_index counts place)
set-here true counts from place same few = subst (λ p. slice_index (slice_set counts p 0) place ≡ 0) same (get_or-set_same counts place 0 0 few)
set-here false counts from place same few = refl

-- a new table forgets the counts of places that have no tenant, and no others
forgotten-length : (from : ℕ) (rows : List Tenant) (counts : List ℕ) → length (forgotten from rows counts) ≡ length counts
unfolding forgotten
forgotten-length from [] counts = refl
forgotten-length from (row ∷ rows) counts =
    forgotten-length (suc from) rows (cond (is_vacant row) (slice_set counts from 0) counts) ∙ set-length (is_vacant row) counts from

forgotten-below : (from : ℕ) (rows : List Tenant) (counts : List ℕ) (place : ℕ) → place < from → slice_index (forgotten from rows counts) place ≡ slice_index counts place
unfolding forgotten
forgotten-below from [] counts place low = refl
forgotten-below from (row ∷ rows) counts place low =
    forgotten-below (suc from) rows (cond (is_vacant row) (slice_set counts from 0) counts) place (omega (arith, low))
    ∙ set-other (is_vacant row) counts from place (λ same. absurd (omega (arith, low, same)))

forgotten-at : (from : ℕ) (rows : List Tenant) (counts : List ℕ) (k place : ℕ) → place ≡ from + k → place < length counts
    → slice_index (forgotten from rows counts) place ≡ cond (is_vacant_at rows k) 0 (slice_index counts place)
unfolding forgotten
forgotten-at from [] counts zero place is few = refl
forgotten-at from [] counts (suc k) place is few = refl
forgotten-at from (row ∷ rows) counts zero place is few =
    forgotten-below (suc from) rows (cond (is_vacant row) (slice_set counts from 0) counts) place (omega (arith, is))
    ∙ set-here (is_vacant row) counts from place (omega (arith, is)) few
forgotten-at from (row ∷ rows) counts (suc k) place is few =
    forgotten-at (suc from) rows (cond (is_vacant row) (slice_set counts from 0) counts) k place (omega (arith, is))
    (omega (arith, few, set-length (is_vacant row) counts from))
    ∙ ap (λ c. cond (is_vacant_at rows k) 0 c) (set-other (is_vacant row) counts from place (λ same. absurd (omega (arith, is, same))))

-- what a counter keeps over a new table
abbrev Keeps : (Tally → ℕ) → (Tally → Type 0) → (List Tenant → ℕ → ℕ) → Type 0
Keeps count fits keep = (old : Tallied) (text : List ℕ) (new : Tallied) → IsReload old text new → fits old.tally
    → (count new.tally ≡ keep new.held.tenants (count old.tally)) × fits new.tally × ((rows : List Tenant) (n : ℕ) → n ≤ 2 ^ 64 - 1 → keep rows n ≤ 2 ^ 64 - 1)

module _ (count : Tally → ℕ) (fits : Tally → Type 0) (test : List Tenant → Turn → Bool) (keep : List Tenant → ℕ → ℕ) (rises : Rises count fits test)
    (keeps : Keeps count fits keep) where
  -- after many lines: the table stays, and the counter still fits
  turns-fit : (before : Tallied) (turns : List Turn) (after : Tallied) → fits before.tally → AreTurns server_rules before turns after
      → fits after.tally × (after.held.tenants ≡ before.held.tenants)
  turns-fit before [] after f same = (subst (λ (s : Tallied). fits s.tally) (sym same) f, ap (λ (s : Tallied). s.held.tenants) same)
  turns-fit before (t ∷ turns) after f (mid, one, run) =
      let line = line-counted before t mid one in
      let here = rises before.held.tenants t before.tally f in
      let later = turns-fit mid turns after (subst fits (sym line.1) here.1) run in
      (later.0, later.1 ∙ line.0)

  story-counted : (past : Story) (before : Tallied) (story : Story) (after : Tallied) → fits before.tally → count before.tally ≤ 2 ^ 64 - 1
      → Passes server_rules past before story after
      → count after.tally ≡ counted_over test keep (count before.tally) before.held.tenants story
  story-counted past before [] after f small same = ap (λ (s : Tallied). count s.tally) same
  story-counted past before (Did a ∷ story) after f small h = story-counted (past ++ Did a ∷ []) before story after f small h.1
  story-counted past before (Ran n turns ∷ story) after f small (mid, first, rest) =
      let now = turns-counted count fits test rises before turns mid f small first in
      let fit = turns-fit before turns mid f first in
      let low : count mid.tally ≤ 2 ^ 64 - 1 = subst (λ c. c ≤ 2 ^ 64 - 1) (sym now) (omega arith) in
      story-counted (past ++ Ran n turns ∷ []) mid story after fit.0 low rest
      ∙ ap (λ c. counted_over test keep c mid.held.tenants story) now
      ∙ ap (λ rows. counted_over test keep (risen (count before.tally) (count_by (test before.held.tenants) turns)) rows story) fit.1
  story-counted past before (Changed text left ∷ story) after f small (mid, step, rest) =
      let rows = rows-of before text mid step in
      let (now, fit, most) = keeps before text mid step f in
      let low : count mid.tally ≤ 2 ^ 64 - 1 = subst (λ c. c ≤ 2 ^ 64 - 1) (sym now) (most mid.held.tenants (count before.tally) small) in
      story-counted (past ++ Changed text left ∷ []) mid story after fit low rest
      ∙ ap (λ c. counted_over test keep c mid.held.tenants story) now
      ∙ ap (λ ts. counted_over test keep (keep ts (count before.tally)) ts story) rows

risen-twice : (c m n : ℕ) → risen (risen c m) n ≡ risen c (m + n)
risen-twice c m n = omega arith

-- a counter whose test does not ask for the table
plain-counted : (test : Turn → Bool) (count : ℕ) (rows : List Tenant) (story : Story) → count ≤ 2 ^ 64 - 1
    → counted_over (λ rows. test) (λ rows n. n) count rows story ≡ risen count (count_by test (turns_in story))
plain-counted test count rows [] small = omega (arith, small)
plain-counted test count rows (Did a ∷ story) small = plain-counted test count rows story small
plain-counted test count rows (Ran n turns ∷ story) small =
    plain-counted test (risen count (count_by test turns)) rows story (omega arith)
    ∙ risen-twice count (count_by test turns) (count_by test (turns_in story))
    ∙ ap (risen count) (sym (sum_by-append (λ x. cond (test x) 1 0) turns (turns_in story)))
plain-counted test count rows (Changed text left ∷ story) small = plain-counted test count (rows_with rows text) story small

lines-keep : (place : ℕ) → Keeps (λ tally. slice_index tally.lines place) (λ tally. place < length tally.lines) (λ rows n. n)
lines-keep place old text new r fits =
    let same = ap (λ (t : Tally). t.lines) r.tally in
    (ap (λ xs. slice_index xs place) same, subst (λ xs. place < length xs) (sym same) fits, λ rows n small. small)

replies-keep : (place : ℕ) → Keeps (λ tally. slice_index tally.replies place) (λ tally. place < length tally.replies) (λ rows n. n)
replies-keep place old text new r fits =
    let same = ap (λ (t : Tally). t.replies) r.tally in
    (ap (λ xs. slice_index xs place) same, subst (λ xs. place < length xs) (sym same) fits, λ rows n small. small)

small-kept : (b : Bool) (n : ℕ) → n ≤ 2 ^ 64 - 1 → cond b 0 n ≤ 2 ^ 64 - 1
small-kept true n small = omega arith
small-kept false n small = small

logins-keep : (place : ℕ) → Keeps (λ tally. slice_index tally.refused place) (λ tally. place < length tally.refused) (kept_at place)
logins-keep place old text new r fits =
    let same = ap (λ (t : Tally). t.refused) r.tally in (
      ap (λ xs. slice_index xs place) same ∙ forgotten-at 0 new.held.tenants old.tally.refused place place (omega arith) fits,
      subst (λ xs. place < length xs) (sym same)
          (subst (λ n. place < n) (sym (forgotten-length 0 new.held.tenants old.tally.refused)) fits),
      λ rows n small. small-kept (is_vacant_at rows place) n small,
    )

spoken-keep : (place : ℕ) → Keeps (λ tally. slice_index tally.spoken place) (λ tally. place < length tally.spoken) (kept_at place)
spoken-keep place old text new r fits =
    let same = ap (λ (t : Tally). t.spoken) r.tally in (
      ap (λ xs. slice_index xs place) same ∙ forgotten-at 0 new.held.tenants old.tally.spoken place place (omega arith) fits,
      subst (λ xs. place < length xs) (sym same)
          (subst (λ n. place < n) (sym (forgotten-length 0 new.held.tenants old.tally.spoken)) fits),
      λ rows n small. small-kept (is_vacant_at rows place) n small,
    )

full-keep : (place : ℕ) → Keeps (λ tally. slice_index tally.full place) (λ tally. place < length tally.full) (kept_at place)
full-keep place old text new r fits =
    let same = ap (λ (t : Tally). t.full) r.tally in (
      ap (λ xs. slice_index xs place) same ∙ forgotten-at 0 new.held.tenants old.tally.full place place (omega arith) fits,
      subst (λ xs. place < length xs) (sym same)
          (subst (λ n. place < n) (sym (forgotten-length 0 new.held.tenants old.tally.full)) fits),
      λ rows n small. small-kept (is_vacant_at rows place) n small,
    )

unknown-keep : Keeps (λ tally. tally.unknown) (λ tally. Unit {0}) (λ rows n. n)
unknown-keep old text new r fits = (ap (λ (t : Tally). t.unknown) r.tally, tt, λ rows n small. small)

-- the counters of a server, however it ended, with a journal or without one: records that are played count nothing
pub counted-from-start : (secret config socket : List ℕ) (watch : Desks) (reserve : Option ℕ) (limits : Limits) (how : Ending) (log log' : Log)
    → (h : HasServedAny secret reserve config socket watch limits how log log')
    → AreCounted h.begun.opened.tenants h.hosted.story h.after.tally
counted-from-start secret config socket watch reserve limits how log log' h =
    let new = h.begun.opened.fresh in let story = h.hosted.story in let rows = h.before.held.tenants in
    let began = started-keeps secret reserve h.begun.opened.tenants h.fresh h.before new h.started in
    let counts : h.before.tally ≡ no_counts = began.counts ∙ new.counts in
    let tenants : rows ≡ h.begun.opened.tenants = began.tenants ∙ new.tenants in
    let none : (count : Tally → ℕ) → count no_counts ≡ 0 → count h.before.tally ≡ 0 = λ count e. ap count counts ∙ e in
    let low : (n : ℕ) → n ≡ 0 → n ≤ 2 ^ 64 - 1 = λ n e. omega (arith, e) in record {
      lines = λ place few.
          let count : Tally → ℕ = λ tally. slice_index tally.lines place in
          let zero = none count (none-yet.0 place) in
          let fits : place < length h.before.tally.lines = omega (arith, few, ap (λ (c : Tally). length c.lines) counts, counters.0) in
          story-counted count (λ tally. place < length tally.lines) (λ rows. asks place) (λ rows n. n) (lines-rise place) (lines-keep place) []
          h.before story h.after fits (low _ zero) h.hosted.told
          ∙ plain-counted (asks place) (count h.before.tally) rows story (low _ zero) ∙ ap (λ c. risen c (count_by (asks place) (turns_in story))) zero;
      replies = λ place few.
          let count : Tally → ℕ = λ tally. slice_index tally.replies place in
          let zero = none count (none-yet.1 place) in
          let fits : place < length h.before.tally.replies = omega (arith, few, ap (λ (c : Tally). length c.replies) counts, counters.1) in
          story-counted count (λ tally. place < length tally.replies) (λ rows. answers place) (λ rows n. n) (replies-rise place) (replies-keep place) []
          h.before story h.after fits (low _ zero) h.hosted.told
          ∙ plain-counted (answers place) (count h.before.tally) rows story (low _ zero) ∙ ap (λ c. risen c (count_by (answers place) (turns_in story))) zero;
      logins = λ place few.
          let count : Tally → ℕ = λ tally. slice_index tally.refused place in
          let test : List Tenant → Turn → Bool = λ rows. refuses rows (Some place) in
          let zero = none count (none-yet.2 place) in
          let fits : place < length h.before.tally.refused = omega (arith, few, ap (λ (c : Tally). length c.refused) counts, counters.2) in
          story-counted count (λ tally. place < length tally.refused) test (kept_at place) (logins-rise place) (logins-keep place) []
          h.before story h.after fits (low _ zero) h.hosted.told
          ∙ ap (λ c. counted_over test (kept_at place) c rows story) zero ∙ ap (λ ts. refused_over place ts story) tenants;
      unknown =
          let zero = none (λ tally. tally.unknown) none-yet.3 in
          story-counted (λ tally. tally.unknown) (λ tally. Unit {0}) (λ rows. refuses rows None) (λ rows n. n) unknown-rise unknown-keep []
          h.before story h.after tt (low _ zero) h.hosted.told
          ∙ ap (λ c. counted_over (λ rows. refuses rows None) (λ rows n. n) c rows story) zero ∙ ap (λ ts. unknown_over ts story) tenants;
      spoken = λ place few.
          let count : Tally → ℕ = λ tally. slice_index tally.spoken place in
          let test : List Tenant → Turn → Bool = λ rows. speaks_at place in
          let zero = none count (none-yet.4 place) in
          let fits : place < length h.before.tally.spoken = omega (arith, few, ap (λ (c : Tally). length c.spoken) counts, counters.3) in
          story-counted count (λ tally. place < length tally.spoken) test (kept_at place) (spoken-rise place) (spoken-keep place) []
          h.before story h.after fits (low _ zero) h.hosted.told
          ∙ ap (λ c. counted_over test (kept_at place) c rows story) zero ∙ ap (λ ts. spoken_over place ts story) tenants;
      full = λ place few.
          let count : Tally → ℕ = λ tally. slice_index tally.full place in
          let test : List Tenant → Turn → Bool = λ rows. fills place in
          let zero = none count (none-yet.5 place) in
          let fits : place < length h.before.tally.full = omega (arith, few, ap (λ (c : Tally). length c.full) counts, counters.4) in
          story-counted count (λ tally. place < length tally.full) test (kept_at place) (full-rise place) (full-keep place) []
          h.before story h.after fits (low _ zero) h.hosted.told
          ∙ ap (λ c. counted_over test (kept_at place) c rows story) zero ∙ ap (λ ts. full_over place ts story) tenants;
    }
