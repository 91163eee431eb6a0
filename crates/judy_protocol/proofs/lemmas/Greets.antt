-- What a HELLO line is told.
--     limits-told    the limits in the reply are those of the code
use Rattle.std.specs.Prelude.{◌≡◌, ◌++◌, codes, decimal}
use Rattle.std.specs.Fmt.{digits}
use Rattle.std.proofs.Common.{refl}
use Rattle.judy_model.specs.declared.names.TheConstants.{NAME_LIMIT, TOKEN_LIMIT, KEY_LIMIT}
use Rattle.judy_model.specs.declared.requests.TheConstants.{LINE_LIMIT}
use Rattle.judy_model.specs.Stream.{greeting}
use Rattle.judy_protocol.specs.declared.limits.TheConstants.{REPLY_LIMIT}

pub limits-told : greeting ≡ codes "JUDYD 1 line " ++ decimal LINE_LIMIT ++ codes " reply " ++ decimal REPLY_LIMIT
    ++ codes " name " ++ decimal NAME_LIMIT ++ codes " token " ++ decimal TOKEN_LIMIT ++ codes " key " ++ decimal KEY_LIMIT
unfolding digits
limits-told = refl
