use Rattle.std.proofs.Common.{◌≡◌, ◌∙◌, [], ap, ap₂, inl, inr, map, string_bytes, subst, sym, List, Option, None, Some, option_map}
use Rattle.clap.specs.Words.{rows_of, found_of, takes, fault_of, is_simple, is_simple_and_free, kind_of, app_of, App, IsAmong, Kinds, Row, Text, subcommand_of}
use Rattle.clap.specs.Kinds.{or_else}
use Rattle.judy_command.specs.CommandLine.{StopsBy, job_of, judyd_app, option_fault_of, words_fault}
use Rattle.judy_command.proofs.Rows.{job_at-in_range, StopsBy-among, StopsBy-first, StopsBy-memory}
use Rattle.judy_command.proofs.words.parse_words.Goals as goal

pub returns-clause-refused : goal.returns-clause-refused
returns-clause-refused c =
    let words = map (λ w. string_bytes w) c.args.words.now in
    let is_judyd : app_of c.in-Ok.command ≡ judyd_app = c.in-Ok.ensures.app in
    let e = c.in-Err-try_get_matches_from.e in
    let kinds = c.in-Err-try_get_matches_from.ensures.kinds (ap is_simple_and_free is_judyd) in
    elim kinds [
      | inl memory ↦ StopsBy-memory (words_fault words) c.refusal_of.result (c.refusal_of.ensures.memory memory)
      | inr among ↦ StopsBy-first (fault_of judyd_app words) (option_fault_of (subcommand_of judyd_app words)) c.refusal_of.result
          (StopsBy-among (kind_of e) (fault_of judyd_app words) c.refusal_of.result
          (let P : App → Type 0 = λ a. IsAmong (kind_of e) (fault_of a words) in subst P is_judyd among) c.refusal_of.ensures.kind)
    ]

pub returns-clause-taken : goal.returns-clause-taken
returns-clause-taken c =
    let words = map (λ w. string_bytes w) c.args.words.now in
    let is_judyd : app_of c.in-Ok.command ≡ judyd_app = c.in-Ok.ensures.app in
    λ taken. λ none. c.refusal_of.ensures.memory (c.in-Err-try_get_matches_from.ensures.passes (ap (λ a. takes a words) is_judyd ∙ taken))

-- the subcommand that was taken out is the one that was found
entered : {A B : Type 0} (name_in : A → Text) (rows_in : A → List Row) (f : B → Text) (g : B → List Row) (found : Option B) (taken : Option A) (a : A)
    → taken ≡ Some a → option_map name_in taken ≡ option_map f found
    → option_map rows_in taken ≡ option_map (λ (p : Text × List Row). p.1) (option_map (λ b. (f b, g b)) found)
    → option_map {U = Text × List Row} (λ b. (f b, g b)) found ≡ Some (name_in a, rows_in a)
entered name_in rows_in f g None taken a e n r = cc
entered name_in rows_in f g (Some b) taken a e n r =
    let name : f b ≡ name_in a = cc in
    let rows : g b ≡ rows_in a = cc in
    ap Some (ap₂ (λ (x : Text) (y : List Row). (x, y)) name rows)

pub returns-in-Ok-obtain-clause-range : goal.returns-in-Ok-obtain-clause-range
returns-in-Ok-obtain-clause-range c = job_at-in_range c.in-Ok-obtain.job c.unwrap.result.0.now (rows_of (found_of c.unwrap.result.1.now)) c.in-Ok-obtain.ensures.job

pub returns-in-Ok-obtain-clause-job : goal.returns-in-Ok-obtain-clause-job
returns-in-Ok-obtain-clause-job c =
    let words = map (λ w. string_bytes w) c.args.words.now in
    let is_judyd : app_of c.in-Ok.command ≡ judyd_app = c.in-Ok.ensures.app in
    let found = c.in-Ok-try_get_matches_from.ensures.matches (ap is_simple is_judyd) in
    let same = found.1 ∙ ap (λ a. subcommand_of a words) is_judyd in
    ap job_of (sym same ∙ entered _ _ _ _ _ c.subcommand.result c.unwrap.result c.unwrap.ensures c.subcommand.ensures.name c.subcommand.ensures.rows)
    ∙ ap Some (sym c.in-Ok-obtain.ensures.job)

pub returns-in-Ok-obtain-clause-faultless : goal.returns-in-Ok-obtain-clause-faultless
returns-in-Ok-obtain-clause-faultless c =
    let words = map (λ w. string_bytes w) c.args.words.now in
    let is_judyd : app_of c.in-Ok.command ≡ judyd_app = c.in-Ok.ensures.app in
    let found = c.in-Ok-try_get_matches_from.ensures.matches (ap is_simple is_judyd) in
    let same = found.1 ∙ ap (λ a. subcommand_of a words) is_judyd in
    let first : fault_of judyd_app words ≡ [] =
    ap (λ a. fault_of a words) (sym is_judyd) ∙ c.in-Ok-try_get_matches_from.ensures.kinds (ap is_simple_and_free is_judyd) in
    let second : option_fault_of (subcommand_of judyd_app words) ≡ [] = ap option_fault_of
    (sym same ∙ entered _ _ _ _ _ c.subcommand.result c.unwrap.result c.unwrap.ensures c.subcommand.ensures.name c.subcommand.ensures.rows)
    ∙ c.in-Ok-obtain.ensures.faultless in
    ap₂ or_else first second

pub returns-in-Ok-try_get_matches_from-clause-refused : goal.returns-in-Ok-try_get_matches_from-clause-refused
returns-in-Ok-try_get_matches_from-clause-refused c =
    let words = map (λ w. string_bytes w) c.args.words.now in
    let is_judyd : app_of c.in-Ok.command ≡ judyd_app = c.in-Ok.ensures.app in
    let found = c.in-Ok-try_get_matches_from.ensures.matches (ap is_simple is_judyd) in
    let same = found.1 ∙ ap (λ a. subcommand_of a words) is_judyd in
    let first : fault_of judyd_app words ≡ [] =
    ap (λ a. fault_of a words) (sym is_judyd) ∙ c.in-Ok-try_get_matches_from.ensures.kinds (ap is_simple_and_free is_judyd) in
    let second = ap option_fault_of
    (sym same ∙ entered _ _ _ _ _ c.subcommand.result c.unwrap.result c.unwrap.ensures c.subcommand.ensures.name c.subcommand.ensures.rows) in
    let P : Kinds → Type 0 = λ kinds. StopsBy kinds c.in-Err-obtain.refusal in
    subst P (sym (ap₂ or_else first second)) c.in-Err-obtain.ensures.refused

pub returns-in-Ok-try_get_matches_from-clause-taken : goal.returns-in-Ok-try_get_matches_from-clause-taken
returns-in-Ok-try_get_matches_from-clause-taken c =
    let words = map (λ w. string_bytes w) c.args.words.now in
    let is_judyd : app_of c.in-Ok.command ≡ judyd_app = c.in-Ok.ensures.app in
    let found = c.in-Ok-try_get_matches_from.ensures.matches (ap is_simple is_judyd) in
    let same = found.1 ∙ ap (λ a. subcommand_of a words) is_judyd in
    let second = ap option_fault_of
    (sym same ∙ entered _ _ _ _ _ c.subcommand.result c.unwrap.result c.unwrap.ensures c.subcommand.ensures.name c.subcommand.ensures.rows) in
    λ taken. λ none. c.in-Err-obtain.ensures.taken (sym second ∙ none)
