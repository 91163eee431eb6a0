-- A text is read as a list of tenants exactly if it is their table.
use Rattle.std.proofs.Common.{◌≡◌, ℕ, ℤ, pos, negsuc, ◌+◌, ◌*◌, ◌≤◌, ◌==◌, ◌&&◌, Bool, true, false, List, [], ◌∷◌, Option, Some, None, is_some, Ok, Err}
use Rattle.std.proofs.Common.{ap, ap₂, sym, ◌∙◌, refl, subst, nat_le, if◌then◌else◌, le-leb, eq-eqb}
use Rattle.std.specs.Prelude.{Result, option_map, option_and_then}
use Rattle.std.proofs.lemmas.Bool.{leb-true, eqb-true, and_parts, and_from}
use Rattle.std.specs.Str.{is_utf8}
use Rattle.std.proofs.lemmas.Str.{IsUtf8-from_is_utf8, is_utf8-from_IsUtf8}
use Rattle.toml.specs.Data.{Data, Members, no_members, member, as_str, as_integer, as_table}
use Rattle.toml.specs.Parse.{parse_document}
use Rattle.hex.specs.Hex.{decode_sized}
use Rattle.hex.specs.declared.error.FromHexError.{FromHexError}
use Rattle.judy_model.specs.Grammar.{is_name}
use Rattle.judy_model.specs.declared.quotas.Quota.{Quota}
use Rattle.judy_table.specs.declared.fault.TableFault.{TableFault}
use Rattle.judy_table.specs.declared.fault.TableFault.TheVariants as fault
use Rattle.judy_table.specs.declared.tenant.Others.{Others}
use Rattle.judy_table.specs.declared.tenant.Tenant.{Tenant}
use Rattle.judy_table.specs.Tenants.{size, Written, OtherTexts, optional, one_if_some, count_others, all_others, all_of, written_in, written, have_shape}
use Rattle.judy_table.specs.Tenants.{up_to, from_one, journal_for, pieces_for, with_pieces, with_journal, with_entries, digest_read, optional_digest, all_read, others_of, with_others}
use Rattle.judy_table.specs.Tenants.{with_digest, tenant_of, tenant_if_written, and_more, tenants_in, read_document, read_table}
use Rattle.judy_table.specs.Meaning.{HasPieces, HasLimit, HasDigest, if_there, HasValues, IsTenantOf, AreTenantsOf, IsTableOf, ReadsTables}

-- ---- numbers, and the values of keys that may be absent

up_to-is : (most : ℕ) (z : ℤ) (n : ℕ) → up_to most z ≡ Some n → (z ≡ pos n) × (n ≤ most)
up_to-is most (pos m) n = elim (nat_le m most) as (λ b. nat_le m most ≡ b → (if b then Some m else None) ≡ Some n → (pos m ≡ pos n) × (n ≤ most)) [
  | true ↦ λ t e. let p : m ≡ n = cc in (ap pos p, subst (λ k. k ≤ most) p (leb-true m most t))
  | false ↦ λ t e. cc
] refl
up_to-is most (negsuc m) n = λ e. cc

up_to-from : (most n : ℕ) → n ≤ most → up_to most (pos n) ≡ Some n
up_to-from most n h = ap (λ b. if b then Some n else None) (le-leb n most h)

from_one-is : (z : ℤ) (n : ℕ) → from_one z ≡ Some n → (z ≡ pos n) × (1 ≤ n)
from_one-is (pos m) n = elim (nat_le 1 m) as (λ b. nat_le 1 m ≡ b → (if b then Some m else None) ≡ Some n → (pos m ≡ pos n) × (1 ≤ n)) [
  | true ↦ λ t e. let p : m ≡ n = cc in (ap pos p, subst (λ k. 1 ≤ k) p (leb-true 1 m t))
  | false ↦ λ t e. cc
] refl
from_one-is (negsuc m) n = λ e. cc

from_one-from : (n : ℕ) → 1 ≤ n → from_one (pos n) ≡ Some n
from_one-from n h = ap (λ b. if b then Some n else None) (le-leb 1 n h)

-- the value that was read, with what it means
pieces-are : (o : Option Data) (p : Option ℤ) (entries pieces : ℕ) → optional as_integer o ≡ Some p → pieces_for entries p ≡ Some pieces
    → HasPieces o (record { entries = entries; pieces = pieces }) × (one_if_some p ≡ if_there o)
pieces-are None None entries pieces e f = let g : 126 * entries ≡ pieces = cc in (sym g, refl)
pieces-are None (Some z) entries pieces e f = cc
pieces-are (Some d) p entries pieces e f = by (as_integer d) refl e
  where
    by : (o : Option ℤ) → as_integer d ≡ o → option_map Some o ≡ Some p
        → HasPieces (Some d) (record { entries = entries; pieces = pieces }) × (one_if_some p ≡ 1)
    by None i j = cc
    by (Some z) i j =
        let same : Some z ≡ p = cc in
        let is = up_to-is 2113929216 z pieces (ap (pieces_for entries) same ∙ f) in
        ((i ∙ ap Some is.0, is.1), ap one_if_some (sym same))

limit-is : (o : Option Data) (j : Option ℤ) (limit : Option ℕ) → optional as_integer o ≡ Some j → journal_for j ≡ Some limit
    → HasLimit o limit × (one_if_some j ≡ if_there o)
limit-is None None limit e f = let g : None ≡ limit = cc in (sym g, refl)
limit-is None (Some z) limit e f = cc
limit-is (Some d) j limit e f = by (as_integer d) refl e
  where
    read : (z : ℤ) (o : Option ℕ) → from_one z ≡ o → option_map Some o ≡ Some limit → (n : ℕ) × (from_one z ≡ Some n) × (limit ≡ Some n)
    read z (Some n) i g = let h : Some n ≡ limit = cc in (n, i, sym h)
    read z None i g = cc

    by : (o : Option ℤ) → as_integer d ≡ o → option_map Some o ≡ Some j → HasLimit (Some d) limit × (one_if_some j ≡ 1)
    by None i k = cc
    by (Some z) i k =
        let same : Some z ≡ j = cc in
        let it = read z (from_one z) refl (ap journal_for same ∙ f) in
        let is = from_one-is z it.0 it.1 in
        ((it.0, i ∙ ap Some is.0, is.1, it.2), ap one_if_some (sym same))

digest-is : (o : Option Data) (l : Option (List ℕ)) (look : Option (List ℕ)) → optional as_str o ≡ Some l → optional_digest l ≡ Ok look
    → HasDigest o look × (one_if_some l ≡ if_there o)
digest-is None None look e f = let g : None ≡ look = cc in (sym g, refl)
digest-is None (Some text) look e f = cc
digest-is (Some d) l look e f = by (as_str d) refl e
  where
    read : (text : List ℕ) (r : Result (List ℕ) FromHexError) → decode_sized text 32 ≡ r → digest_read r ≡ Ok look
        → (digest : List ℕ) × (decode_sized text 32 ≡ Ok digest) × (look ≡ Some digest)
    read text (Ok digest) i j = let g : Some digest ≡ look = cc in (digest, i, sym g)
    read text (Err x) i j = cc

    by : (o : Option (List ℕ)) → as_str d ≡ o → option_map Some o ≡ Some l → HasDigest (Some d) look × (one_if_some l ≡ 1)
    by None i j = cc
    by (Some text) i j =
        let same : Some text ≡ l = cc in
        let it = read text (decode_sized text 32) refl (ap optional_digest same ∙ f) in
        ((text, it.0, i, it.1, it.2), ap one_if_some (sym same))

-- the three others, each by itself
pub record AreOthers (w : OtherTexts) (o : Others) : Type 0 where
  pub look : optional_digest w.look ≡ Ok o.look
  pub former : optional_digest w.former ≡ Ok o.former
  pub former_look : optional_digest w.former_look ≡ Ok o.former_look

pub others-are : (w : OtherTexts) (o : Others) → others_of w ≡ Ok o → AreOthers w o
others-are w o = by (optional_digest w.look) (optional_digest w.former) (optional_digest w.former_look) refl refl refl
  where
    by : (a b c : Result (Option (List ℕ)) FromHexError) → optional_digest w.look ≡ a → optional_digest w.former ≡ b → optional_digest w.former_look ≡ c
        → all_read a b c ≡ Ok o → AreOthers w o
    by (Ok a) (Ok b) (Ok c) i j k e =
        let same : record { look = a; former = b; former_look = c } ≡ o = cc in
        subst (AreOthers w) same (record { look = i; former = j; former_look = k })
    by (Ok a) (Ok b) (Err x) i j k e = cc
    by (Ok a) (Err x) c i j k e = cc
    by (Err x) b c i j k e = cc

others-from : (w : OtherTexts) (o : Others) → AreOthers w o → others_of w ≡ Ok o
others-from w o h =
    ap (λ a. all_read a (optional_digest w.former) (optional_digest w.former_look)) h.look
    ∙ ap (λ b. all_read (Ok o.look) b (optional_digest w.former_look)) h.former
    ∙ ap (all_read (Ok o.look) (Ok o.former)) h.former_look

-- their texts, each by itself
pub record AreTexts (a b c : Option (Option (List ℕ))) (w : OtherTexts) : Type 0 where
  pub look : a ≡ Some w.look
  pub former : b ≡ Some w.former
  pub former_look : c ≡ Some w.former_look

texts-are : (a b c : Option (Option (List ℕ))) (w : OtherTexts) → all_others a b c ≡ Some w → AreTexts a b c w
texts-are (Some a) (Some b) (Some c) w e =
    let same : record { look = a; former = b; former_look = c } ≡ w = cc in
    subst (AreTexts (Some a) (Some b) (Some c)) same (record { look = refl; former = refl; former_look = refl })
texts-are (Some a) (Some b) None w e = cc
texts-are (Some a) None c w e = cc
texts-are None b c w e = cc

-- ---- one tenant

-- the parts of a tenant that was made from its values
pub record AreParts (name : List ℕ) (w : Written) (t : Tenant) : Type 0 where
  pub spelled : is_name name ≡ true
  pub name_is : t.name ≡ name
  pub digest : decode_sized w.digest 32 ≡ Ok t.digest
  pub others : others_of w.others ≡ Ok t.others
  pub entries : up_to 16777216 w.entries ≡ Some t.quota.entries
  pub journal : journal_for w.journal ≡ Some t.journal
  pub pieces : pieces_for t.quota.entries w.pieces ≡ Some t.quota.pieces
  pub thawed : t.frozen ≡ None

parts-of : (name : List ℕ) (w : Written) (t : Tenant) → tenant_of name w ≡ Ok t → AreParts name w t
parts-of name w t = by_name (is_name name) refl
  where
    by_pieces : (digest : List ℕ) (others : Others) (n : ℕ) (j o : Option ℕ) → is_name name ≡ true → decode_sized w.digest 32 ≡ Ok digest
        → others_of w.others ≡ Ok others → up_to 16777216 w.entries ≡ Some n → journal_for w.journal ≡ Some j → pieces_for n w.pieces ≡ o
        → with_pieces name digest others n j o ≡ Ok t → AreParts name w t
    by_pieces digest others n j (Some p) a b c d g f e =
        let same : record { name = name; digest = digest; others = others; quota = record { entries = n; pieces = p }; journal = j; frozen = None } ≡ t = cc in
        subst (AreParts name w) same (record { spelled = a; name_is = refl; digest = b; others = c; entries = d; journal = g; pieces = f; thawed = refl })
    by_pieces digest others n j None a b c d g f e = cc

    by_journal : (digest : List ℕ) (others : Others) (n : ℕ) (o : Option (Option ℕ)) → is_name name ≡ true → decode_sized w.digest 32 ≡ Ok digest
        → others_of w.others ≡ Ok others → up_to 16777216 w.entries ≡ Some n → journal_for w.journal ≡ o
        → with_journal name digest others n o w.pieces ≡ Ok t → AreParts name w t
    by_journal digest others n (Some j) a b c d g e = by_pieces digest others n j (pieces_for n w.pieces) a b c d g refl e
    by_journal digest others n None a b c d g e = cc

    by_entries : (digest : List ℕ) (others : Others) (o : Option ℕ) → is_name name ≡ true → decode_sized w.digest 32 ≡ Ok digest
        → others_of w.others ≡ Ok others → up_to 16777216 w.entries ≡ o → with_entries name digest others o (journal_for w.journal) w.pieces ≡ Ok t → AreParts name w t
    by_entries digest others (Some n) a b c d e = by_journal digest others n (journal_for w.journal) a b c d refl e
    by_entries digest others None a b c d e = cc

    by_others : (digest : List ℕ) (r : Result Others FromHexError) → is_name name ≡ true → decode_sized w.digest 32 ≡ Ok digest
        → others_of w.others ≡ r → with_others name digest r w ≡ Ok t → AreParts name w t
    by_others digest (Ok others) a b c e = by_entries digest others (up_to 16777216 w.entries) a b c refl e
    by_others digest (Err x) a b c e = cc

    by_digest : (r : Result (List ℕ) FromHexError) → is_name name ≡ true → decode_sized w.digest 32 ≡ r → with_digest name r w ≡ Ok t → AreParts name w t
    by_digest (Ok digest) a b e = by_others digest (others_of w.others) a b refl e
    by_digest (Err x) a b e = cc

    by_name : (b : Bool) → is_name name ≡ b → (if b then with_digest name (decode_sized w.digest 32) w else Err fault.Name) ≡ Ok t → AreParts name w t
    by_name true a e = by_digest (decode_sized w.digest 32) a refl e
    by_name false a e = cc

-- from its values to the tenant
tenant-from : (name : List ℕ) (w : Written) (t : Tenant) → AreParts name w t → tenant_of name w ≡ Ok t
tenant-from name w t p =
    ap (λ b. if b then with_digest name (decode_sized w.digest 32) w else Err fault.Name) p.spelled
    ∙ ap (λ r. with_digest name r w) p.digest ∙ ap (λ r. with_others name t.digest r w) p.others
    ∙ ap (λ o. with_entries name t.digest t.others o (journal_for w.journal) w.pieces) p.entries
    ∙ ap (λ o. with_journal name t.digest t.others t.quota.entries o w.pieces) p.journal
    ∙ ap (with_pieces name t.digest t.others t.quota.entries t.journal) p.pieces
    ∙ ap₂ (λ m f. Ok (record { name = m; digest = t.digest; others = t.others; quota = t.quota; journal = t.journal; frozen = f })) (sym p.name_is) (sym p.thawed)

-- the values of the keys
abbrev values_of : List ℕ → ℤ → Option ℤ → Option ℤ → OtherTexts → Written
values_of s q p j l = record { digest = s; entries = q; pieces = p; journal = j; others = l }

-- the values that a table of n keys has
values-are : (name : List ℕ) (n : ℕ) (sha256 : Option (List ℕ)) (quota : Option ℤ) (p m : Option (Option ℤ)) (l : Option OtherTexts) (t : Tenant)
    → tenant_if_written name (all_of n sha256 quota p m l) ≡ Ok t
    → (w : Written) × (sha256 ≡ Some w.digest) × (quota ≡ Some w.entries) × (p ≡ Some w.pieces) × (m ≡ Some w.journal) × (l ≡ Some w.others)
    × (n ≡ 2 + one_if_some w.pieces + one_if_some w.journal + count_others w.others) × AreParts name w t
values-are name n None quota p m l t e = cc
values-are name n (Some s) None p m l t e = cc
values-are name n (Some s) (Some q) None m l t e = cc
values-are name n (Some s) (Some q) (Some pv) None l t e = cc
values-are name n (Some s) (Some q) (Some pv) (Some mv) None t e = cc
values-are name n (Some s) (Some q) (Some pv) (Some mv) (Some lv) t e = by (n == 2 + one_if_some pv + one_if_some mv + count_others lv) refl e
  where
    by : (b : Bool) → (n == 2 + one_if_some pv + one_if_some mv + count_others lv) ≡ b → tenant_if_written name (if b then Some (values_of s q pv mv lv) else None) ≡ Ok t
        → (v : Written) × (Some s ≡ Some v.digest) × (Some q ≡ Some v.entries) × (Some pv ≡ Some v.pieces) × (Some mv ≡ Some v.journal) × (Some lv ≡ Some v.others)
        × (n ≡ 2 + one_if_some v.pieces + one_if_some v.journal + count_others v.others) × AreParts name v t
    by true h f = (values_of s q pv mv lv, refl, refl, refl, refl, refl, eqb-true n _ h, parts-of name (values_of s q pv mv lv) t f)
    by false h f = cc

-- the texts of the other digests, by the values of their keys
abbrev texts_of : Option Data → Option Data → Option Data → Option OtherTexts
texts_of a b c = all_others (optional as_str a) (optional as_str b) (optional as_str c)

-- how many of them are given
abbrev if_any : Option Data → Option Data → Option Data → ℕ
if_any a b c = if_there a + if_there b + if_there c

-- there are as many values as keys
counted : (pv mv : Option ℤ) (p m : Option Data) (w : OtherTexts) (a b c : Option Data) → one_if_some pv ≡ if_there p → one_if_some mv ≡ if_there m
    → one_if_some w.look ≡ if_there a → one_if_some w.former ≡ if_there b → one_if_some w.former_look ≡ if_there c
    → 2 + one_if_some pv + one_if_some mv + count_others w ≡ 2 + if_there p + if_there m + if_any a b c
counted pv mv p m w a b c i h j k l =
    ap (λ x. 2 + x + one_if_some mv + count_others w) i
    ∙ ap (λ x. 2 + if_there p + x + count_others w) h
    ∙ ap (λ x. 2 + if_there p + if_there m + (x + one_if_some w.former + one_if_some w.former_look)) j
    ∙ ap (λ x. 2 + if_there p + if_there m + (if_there a + x + one_if_some w.former_look)) k
    ∙ ap (λ x. 2 + if_there p + if_there m + (if_there a + if_there b + x)) l

-- a tenant that was read has these values
has-values : (name : List ℕ) (n : ℕ) (sha256 : Option (List ℕ)) (quota : Option ℤ) (p m a b c : Option Data) (t : Tenant)
    → tenant_if_written name (all_of n sha256 quota (optional as_integer p) (optional as_integer m) (texts_of a b c)) ≡ Ok t → HasValues name n sha256 quota p m a b c t
has-values name n sha256 quota p m a b c t e =
    let v = values-are name n sha256 quota (optional as_integer p) (optional as_integer m) (texts_of a b c) t e in
    let w : Written = v.0 in
    let parts : AreParts name w t = v.7 in
    let number = up_to-is 16777216 w.entries t.quota.entries parts.entries in
    let pieces = pieces-are p w.pieces t.quota.entries t.quota.pieces v.3 parts.pieces in
    let limit = limit-is m w.journal t.journal v.4 parts.journal in
    let texts = texts-are (optional as_str a) (optional as_str b) (optional as_str c) w.others v.5 in
    let others = others-are w.others t.others parts.others in
    let look = digest-is a w.others.look t.others.look texts.look others.look in
    let former = digest-is b w.others.former t.others.former texts.former others.former in
    let former_look = digest-is c w.others.former_look t.others.former_look texts.former_look others.former_look in
    record {
      spelled = parts.spelled;
      name_is = parts.name_is;
      text = w.digest;
      string = v.1;
      digest = parts.digest;
      integer = v.2 ∙ ap Some number.0;
      most = number.1;
      pieces_are = pieces.0;
      journal_is = limit.0;
      look_is = look.0;
      former_is = former.0;
      former_look_is = former_look.0;
      thawed = parts.thawed;
      only = v.6 ∙ counted w.pieces w.journal p m w.others a b c pieces.1 limit.1 look.1 former.1 former_look.1;
    }

-- and the other way round
pieces-from : (o : Option Data) (q : Quota) → HasPieces o q
    → (p : Option ℤ) × (optional as_integer o ≡ Some p) × (pieces_for q.entries p ≡ Some q.pieces) × (one_if_some p ≡ if_there o)
pieces-from None q h = (None, refl, ap Some (sym h), refl)
pieces-from (Some d) q h = (Some (pos q.pieces), ap (option_map Some) h.0, up_to-from 2113929216 q.pieces h.1, refl)

digest-from : (o : Option Data) (look : Option (List ℕ)) → HasDigest o look
    → (l : Option (List ℕ)) × (optional as_str o ≡ Some l) × (optional_digest l ≡ Ok look) × (one_if_some l ≡ if_there o)
digest-from None look h = (None, refl, ap Ok (sym h), refl)
digest-from (Some d) look h = (Some h.0, ap (option_map Some) h.2, ap digest_read h.3 ∙ ap Ok (sym h.4), refl)

limit-from : (o : Option Data) (limit : Option ℕ) → HasLimit o limit
    → (j : Option ℤ) × (optional as_integer o ≡ Some j) × (journal_for j ≡ Some limit) × (one_if_some j ≡ if_there o)
limit-from None limit h = (None, refl, ap Some (sym h), refl)
limit-from (Some d) limit h = (Some (pos h.0), ap (option_map Some) h.1, ap (option_map Some) (from_one-from h.0 h.2) ∙ ap Some (sym h.3), refl)

read-from : (name : List ℕ) (n : ℕ) (sha256 : Option (List ℕ)) (quota : Option ℤ) (p m a b c : Option Data) (t : Tenant)
    → HasValues name n sha256 quota p m a b c t
    → tenant_if_written name (all_of n sha256 quota (optional as_integer p) (optional as_integer m) (texts_of a b c)) ≡ Ok t
read-from name n sha256 quota p m a b c t h =
    let pieces = pieces-from p t.quota h.pieces_are in
    let limit = limit-from m t.journal h.journal_is in
    let look = digest-from a t.others.look h.look_is in
    let former = digest-from b t.others.former h.former_is in
    let former_look = digest-from c t.others.former_look h.former_look_is in
    let others : OtherTexts = record { look = look.0; former = former.0; former_look = former_look.0 } in
    let w : Written = record { digest = h.text; entries = pos t.quota.entries; pieces = pieces.0; journal = limit.0; others = others } in
    let texts : texts_of a b c ≡ Some others =
    ap (λ x. all_others x (optional as_str b) (optional as_str c)) look.1
    ∙ ap (λ x. all_others (Some look.0) x (optional as_str c)) former.1
    ∙ ap (all_others (Some look.0) (Some former.0)) former_look.1 in
    let many : (n == 2 + one_if_some pieces.0 + one_if_some limit.0 + count_others others) ≡ true = eq-eqb n (2 + one_if_some pieces.0 + one_if_some limit.0 + count_others others)
    (h.only ∙ sym (counted pieces.0 limit.0 p m others a b c pieces.3 limit.3 look.3 former.3 former_look.3)) in
    ap (λ o. tenant_if_written name (all_of n o quota (optional as_integer p) (optional as_integer m) (texts_of a b c))) h.string
    ∙ ap (λ o. tenant_if_written name (all_of n (Some h.text) o (optional as_integer p) (optional as_integer m) (texts_of a b c))) h.integer
    ∙ ap (λ o. tenant_if_written name (all_of n (Some h.text) (Some (pos t.quota.entries)) o (optional as_integer m) (texts_of a b c))) pieces.1
    ∙ ap (λ o. tenant_if_written name (all_of n (Some h.text) (Some (pos t.quota.entries)) (Some pieces.0) o (texts_of a b c))) limit.1
    ∙ ap (λ o. tenant_if_written name (all_of n (Some h.text) (Some (pos t.quota.entries)) (Some pieces.0) (Some limit.0) o)) texts
    ∙ ap (λ b. tenant_if_written name (if b then Some w else None)) many
    ∙ tenant-from name w t (record {
      spelled = h.spelled;
      name_is = h.name_is;
      digest = h.digest;
      others = others-from others t.others (record { look = look.2; former = former.2; former_look = former_look.2 });
      entries = up_to-from 16777216 t.quota.entries h.most;
      journal = limit.2;
      pieces = pieces.2;
      thawed = h.thawed;
    })

-- ---- all tenants

pub tenant-is : (name : List ℕ) (d : Data) (t : Tenant) → tenant_if_written name (written d) ≡ Ok t → IsTenantOf name d t
tenant-is name d t = by (as_table d) refl
  where
    by : (o : Option Members) → as_table d ≡ o → tenant_if_written name (option_and_then written_in o) ≡ Ok t → IsTenantOf name d t
    by None i e = cc
    by (Some keys) i e = record { keys = keys; table = i; values = has-values name (size keys) _ _ _ _ _ _ _ t e }

tenant-is-read : (name : List ℕ) (d : Data) (t : Tenant) → IsTenantOf name d t → tenant_if_written name (written d) ≡ Ok t
tenant-is-read name d t h = ap (λ o. tenant_if_written name (option_and_then written_in o)) h.table ∙ read-from name (size h.keys) _ _ _ _ _ _ _ t h.values

tenants-are : (ms : Members) (ts : List Tenant) → tenants_in ms ≡ Ok ts → AreTenantsOf ms ts
tenants-are no_members [] e = tt
tenants-are no_members (t ∷ ts) e = cc
tenants-are (member name d ms) ts e = by (tenants-are ms) (tenant_if_written name (written d)) (tenants_in ms) refl refl ts e
  where
    by : ((us : List Tenant) → tenants_in ms ≡ Ok us → AreTenantsOf ms us) → (r : Result Tenant TableFault) (s : Result (List Tenant) TableFault)
        → tenant_if_written name (written d) ≡ r → tenants_in ms ≡ s → (all : List Tenant) → and_more r s ≡ Ok all → AreTenantsOf (member name d ms) all
    by rest (Ok t) (Ok more) i j [] f = cc
    by rest (Ok t) (Ok more) i j (u ∷ us) f =
        let first : t ≡ u = cc in
        let others : more ≡ us = cc in
        (tenant-is name d u (i ∙ ap Ok first), rest us (j ∙ ap Ok others))
    by rest (Ok t) (Err x) i j all f = cc
    by rest (Err x) s i j all f = cc

tenants-are-read : (ms : Members) (ts : List Tenant) → AreTenantsOf ms ts → tenants_in ms ≡ Ok ts
tenants-are-read no_members [] h = refl
tenants-are-read no_members (t ∷ ts) h = absurd h
tenants-are-read (member name d ms) [] h = absurd h
tenants-are-read (member name d ms) (t ∷ ts) h =
    ap (λ r. and_more r (tenants_in ms)) (tenant-is-read name d t h.0) ∙ ap (and_more (Ok t)) (tenants-are-read ms ts h.1)

-- the values of tenants have the shape of tenants
shape-of : (ms : Members) (ts : List Tenant) → AreTenantsOf ms ts → have_shape ms ≡ true
shape-of no_members ts h = refl
shape-of (member name d ms) [] h = absurd h
shape-of (member name d ms) (t ∷ ts) h = and_from _ _ (has_shape (written d) (tenant-is-read name d t h.0)) (shape-of ms ts h.1)
  where
    has_shape : (o : Option Written) → tenant_if_written name o ≡ Ok t → is_some o ≡ true
    has_shape None e = cc
    has_shape (Some w) e = refl

-- ---- a text

table-is : (text : List ℕ) (ts : List Tenant) → read_table text ≡ Ok ts → IsTableOf text ts
table-is text ts = by_utf8 (is_utf8 text) refl
  where
    by_count : (ms : Members) (b : Bool) → is_utf8 text ≡ true → parse_document text ≡ Some ms → (nat_le 1 (size ms) && nat_le (size ms) 64) ≡ b
        → (if b then tenants_in ms else Err fault.Count) ≡ Ok ts → IsTableOf text ts
    by_count ms true u p c e =
        let parts = and_parts (nat_le 1 (size ms)) (nat_le (size ms) 64) c in
        record {
          utf8 = IsUtf8-from_is_utf8 text u;
          document = ms;
          parses = p;
          some = leb-true 1 (size ms) parts.0;
          few = leb-true (size ms) 64 parts.1;
          tenants = tenants-are ms ts e;
        }
    by_count ms false u p c e = cc

    by_shape : (ms : Members) (b : Bool) → is_utf8 text ≡ true → parse_document text ≡ Some ms → have_shape ms ≡ b
        → (if b then (if nat_le 1 (size ms) && nat_le (size ms) 64 then tenants_in ms else Err fault.Count) else Err fault.Shape) ≡ Ok ts
        → IsTableOf text ts
    by_shape ms true u p s e = by_count ms (nat_le 1 (size ms) && nat_le (size ms) 64) u p refl e
    by_shape ms false u p s e = cc

    by_document : (o : Option Members) → is_utf8 text ≡ true → parse_document text ≡ o → read_document o ≡ Ok ts → IsTableOf text ts
    by_document (Some ms) u p e = by_shape ms (have_shape ms) u p refl e
    by_document None u p e = cc

    by_utf8 : (b : Bool) → is_utf8 text ≡ b → (if b then read_document (parse_document text) else Err fault.Toml) ≡ Ok ts → IsTableOf text ts
    by_utf8 true u e = by_document (parse_document text) u refl e
    by_utf8 false u e = cc

table-is-read : (text : List ℕ) (ts : List Tenant) → IsTableOf text ts → read_table text ≡ Ok ts
table-is-read text ts h =
    ap (λ b. if b then read_document (parse_document text) else Err fault.Toml) (is_utf8-from_IsUtf8 text h.utf8)
    ∙ ap read_document h.parses
    ∙ ap (λ b. if b then (if nat_le 1 (size h.document) && nat_le (size h.document) 64 then tenants_in h.document else Err fault.Count) else Err fault.Shape)
    (shape-of h.document ts h.tenants)
    ∙ ap (λ b. if b then tenants_in h.document else Err fault.Count)
    (and_from (nat_le 1 (size h.document)) (nat_le (size h.document) 64) (le-leb 1 (size h.document) h.some) (le-leb (size h.document) 64 h.few))
    ∙ tenants-are-read h.document ts h.tenants

-- a text is read as these tenants exactly if it is their table
pub tables-are-read : ReadsTables
tables-are-read text ts = (table-is text ts, table-is-read text ts)
