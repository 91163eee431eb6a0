-- A tenant that stays, with its quota, over all tables that are put in force.
--     row-stays               a tenant whose row each new table has stays (`StaysAt`)
--     keeps-tenant            each new table keeps its arrays
--     tenant-alone            over all lines of a server its replies are those that it would get alone
use Rattle.std.proofs.Common.{◌≡◌, ◌∙◌, ℕ, zero, suc, Bool, true, false, List, [], ◌∷◌, ◌++◌, Option, ap, not, refl, subst, sym}
use Rattle.std.specs.Prelude.{◌&&◌, IsTrue, option_map, slice_get, unwrap_or}
use Rattle.std.proofs.lemmas.Option.{slice_get-map}
use Rattle.judy_many.specs.Changes.{IsAloneFor}
use Rattle.judy_many.specs.Statuses.{Keeps, Passes}
use Rattle.judy_many.specs.Stories.{Story, changes_in, turns_in}
use Rattle.judy_many.specs.Stories.Moment.{Changed, Did, Ran}
use Rattle.judy_many.specs.declared.serve.Ending.{Ending}
use Rattle.judy_many.specs.declared.serve.Limits.{Limits}
use Rattle.judy_programs.specs.Asking.{Log}
use Rattle.judy_programs.specs.Hosting.{Desks}
use Rattle.judy_table.specs.Tenants.{is_vacant}
use Rattle.judy_table.specs.declared.tenant.Tenant.{Tenant}
use Rattle.judy_tenants.specs.Changes.{has_tenant, stays_at}
use Rattle.judy_tenants.specs.Held.{no_quota, quotas_of}
use Rattle.judy_server.specs.Reloads.{HasRow, StaysAt, rows_with}
use Rattle.judy_server.specs.Rules.{server_rules}
use Rattle.judy_server.specs.Served.{seen_of}
use Rattle.judy_server.specs.Starts.{HasServedAny}
use Rattle.judy_server.specs.Tally.{Tallied}
use Rattle.judy_server.proofs.lemmas.Space.{rows-of, rows-stay}

-- whether a tenant has a place, and its quota, are told by its row
tenant-is : (rows later : List Tenant) (t : ℕ) → slice_get later t ≡ slice_get rows t → has_tenant later t ≡ has_tenant rows t
tenant-is rows later t same =
    ap (λ (o : Option Bool). unwrap_or (option_map not o) false)
    (slice_get-map is_vacant later t ∙ ap (option_map is_vacant) same ∙ sym (slice_get-map is_vacant rows t))

quota-at : (rows : List Tenant) (t : ℕ) → quotas_of rows t ≡ unwrap_or (option_map (λ (r : Tenant). r.quota) (slice_get rows t)) no_quota
quota-at [] zero = refl
quota-at [] (suc t) = refl
quota-at (r ∷ rows) zero = refl
quota-at (r ∷ rows) (suc t) = quota-at rows t

quota-is : (rows later : List Tenant) (t : ℕ) → slice_get later t ≡ slice_get rows t → quotas_of later t ≡ quotas_of rows t
quota-is rows later t same =
    quota-at later t ∙ ap (λ (o : Option Tenant). unwrap_or (option_map (λ (r : Tenant). r.quota) o) no_quota) same ∙ sym (quota-at rows t)

-- a tenant whose row each table has stays, with its quota
pub row-stays : (t : ℕ) (rows : List Tenant) (texts : List (List ℕ)) → has_tenant rows t ≡ true → HasRow t rows texts → StaysAt t rows texts
row-stays t rows [] there h = tt
row-stays t rows (text ∷ texts) there (same, h) =
    let later : has_tenant (rows_with rows text) t ≡ true = tenant-is rows (rows_with rows text) t same ∙ there in
    let both : stays_at rows (rows_with rows text) t ≡ true = ap (λ b. b && has_tenant (rows_with rows text) t) there ∙ later in
    (both, quota-is rows (rows_with rows text) t same, row-stays t (rows_with rows text) texts later h)

-- each new table keeps its quota and its arrays
pub keeps-tenant : (t : ℕ) (past : Story) (before : Tallied) (story : Story) (after : Tallied) (h : Passes server_rules past before story after)
    → StaysAt t before.held.tenants (changes_in story) → Keeps server_rules t past before story after h
keeps-tenant t past before [] after h stays = tt
keeps-tenant t past before (Did a ∷ story) after h stays = keeps-tenant t (past ++ Did a ∷ []) before story after h.1 stays
keeps-tenant t past before (Ran n turns ∷ story) after (mid, first, rest) stays =
    keeps-tenant t (past ++ Ran n turns ∷ []) mid story after rest (subst (λ rows. StaysAt t rows (changes_in story)) (sym (rows-stay turns before mid first)) stays)
keeps-tenant t past before (Changed text left ∷ story) after (mid, step, rest) (both, quota, stays) =
    let rows = rows-of before text mid step in (
      ap (λ ts. quotas_of ts t) rows ∙ quota,
      (step.held.stays t (subst (λ ts. IsTrue (stays_at before.held.tenants ts t)) (sym rows) both)).0,
      keeps-tenant t (past ++ Changed text left ∷ []) mid story after rest (subst (λ ts. StaysAt t ts (changes_in story)) (sym rows) stays),
    )

-- over all lines of a server, with a journal or without one, whatever tables were put in force between them, its replies are those that
-- it would get alone, and no other server would give others
pub tenant-alone : (secret config socket : List ℕ) (watch : Desks) (reserve : Option ℕ) (limits : Limits) (how : Ending) (log log' : Log)
    → (h : HasServedAny secret reserve config socket watch limits how log log')
    → (t : ℕ) → StaysAt t h.before.held.tenants (changes_in h.hosted.story)
    → IsAloneFor t (seen_of h.before) (turns_in h.hosted.story) (seen_of h.after)
tenant-alone secret config socket watch reserve limits how log log' h t stays =
    h.hosted.kept t (keeps-tenant t [] h.before h.hosted.story h.after h.hosted.told stays)
