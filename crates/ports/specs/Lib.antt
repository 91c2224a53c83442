-- Where a frame is sent: ports, new priority, tags and queues.
pub mod Ports
pub mod Sent
pub mod Laws
pub mod Proved
