use Rattle.std.proofs.Common.{refl}
use Rattle.addresses.proofs.Back.{site_reads_back, address_reads_back, any_port_reads}
use Rattle.addresses.proofs.addresses_read_back.Goals as goal

pub returns : goal.returns
returns c = (site_reads_back, (address_reads_back, (any_port_reads, refl)))
