-- What an operator is warned of.
use Rattle.std.proofs.Common.{◌≡◌, ◌&&◌, ◌++◌, ◌-◌, ℕ, zero, suc, false, List, codes, decimal, nat_lt, ap, sym, subst, refl, ◌∙◌, append_assoc}
use Rattle.std.specs.Prelude.{if◌then◌else◌, Option, None}
use Rattle.judy_many.specs.Nets.{Acts, DidLog}
use Rattle.judy_many.specs.Stories.{BeginsWith}
use Rattle.judy_many.specs.Warnings.{HasWarned, TellsLogins, is_due, is_later, logins_text, named_login, others_text, requests_text, told_after, warning_acts}
use Rattle.judy_many.specs.declared.warnings.Told.{Told}
use Rattle.judy_many.specs.declared.warnings.Warnings.{Warnings}
use Rattle.judy_many.proofs.Living.{no_log}

-- the line of refused requests begins so
pub begins_requests : (count : ℕ) → BeginsWith (codes "out of memory: ") (requests_text count)
begins_requests count = (decimal count ++ codes " requests refused", append_assoc (codes "out of memory: ") (decimal count) (codes " requests refused"))

pub begins_logins : (name : List ℕ) (count : ℕ) → BeginsWith (codes "log-in refused: ") (logins_text name count)
begins_logins name count = (named_login name ++ others_text (count - 1), append_assoc (codes "log-in refused: ") (named_login name) (others_text (count - 1)))

-- a count that did not rise is not told
pub is_told : (told : Told) (count : ℕ) (now : Option ℕ) → nat_lt told.count count ≡ false → is_due told count now ≡ false
is_told told count now same = ap (λ b. b && is_later now told.at) same

pub stays_told : (told : Told) (count : ℕ) (now : Option ℕ) → nat_lt told.count count ≡ false → told ≡ told_after told count now
stays_told told count now same = sym (ap (λ b. if b then record { count = count; at = now } else told) (is_told told count now same))

-- the text of others is behind a line
pub others_here : (others : ℕ) → (others ≡ 0 → ⊥) → (l a b c : List ℕ) → a ≡ l ++ codes ", and " → b ≡ a ++ decimal others → c ≡ b ++ codes " more"
    → c ≡ l ++ others_text others
others_here zero some l a b c h k m = absurd (some refl)
others_here (suc others) some l a b c h k m =
    m ∙ ap (λ x. x ++ codes " more") (k ∙ ap (λ x. x ++ decimal (suc others)) h ∙ append_assoc l (codes ", and ") (decimal (suc others)))
    ∙ append_assoc l (codes ", and " ++ decimal (suc others)) (codes " more")

-- where nothing is left to tell, nothing is told
pub untold : (told : Warnings) (name : List ℕ) (refused short : ℕ) (log : Acts) → nat_lt told.logins.count refused ≡ false → nat_lt told.requests.count short ≡ false
    → HasWarned told name refused short log log told
untold told name refused short log no_logins no_requests = record {
  now = None;
  line = logins_text name (refused - told.logins.count);
  tells = record { head = begins_logins name (refused - told.logins.count); text = λ few. refl };
  mid = log;
  first = subst (λ b. DidLog log (warning_acts b (logins_text name (refused - told.logins.count))) log) (sym (is_told told.logins refused None no_logins)) (no_log log);
  then_requests = subst (λ b. DidLog log (warning_acts b (requests_text (short - told.requests.count))) log) (sym (is_told told.requests short None no_requests)) (no_log log);
  logins = stays_told told.logins refused None no_logins;
  requests = stays_told told.requests short None no_requests;
}

-- what is told by the counts that the service gives is what is told of it
pub warned_by : (told : Warnings) (logins requests : Told) (now : Option ℕ) (line : List ℕ) (log mid log' : Acts) {name name' : List ℕ} {refused r short s : ℕ}
    → name' ≡ name → r ≡ refused → s ≡ short → TellsLogins name' (r - told.logins.count) line
    → DidLog log (warning_acts (is_due told.logins r now) line) mid
    → DidLog mid (warning_acts (is_due told.requests s now) (requests_text (s - told.requests.count))) log'
    → logins ≡ told_after told.logins r now → requests ≡ told_after told.requests s now
    → HasWarned told name refused short log log' (record { logins = logins; requests = requests })
warned_by told logins requests now line log mid log' {name} {name'} {refused} {r} {short} {s} n rs ss tells first then_requests l q =
    subst (λ n. HasWarned told n refused short log log' (record { logins = logins; requests = requests })) n
    (subst (λ r. HasWarned told name' r short log log' (record { logins = logins; requests = requests })) rs
    (subst (λ s. HasWarned told name' r s log log' (record { logins = logins; requests = requests })) ss
    (record { now = now; line = line; tells = tells; mid = mid; first = first; then_requests = then_requests; logins = l; requests = q })))
